use Rattle.std.proofs.Common.{◌∙◌, List, map, ap, arith}
use Rattle.record_frames.specs.Kept.{devices, bound_frames}
use Rattle.record_frames.specs.State.{bound_among}
use Rattle.record_frames.specs.Writing.{frames_of, pages_in_use, with_pages}
use Rattle.record_frames.specs.declared.carried.CarriedBound.{CarriedBound}
use Rattle.record_frames.specs.declared.carried.CarriedSession.{CarriedSession}
use Rattle.kho_writer.specs.Entry.{number_at}
use Rattle.kho_writer.proofs.Limits.{sessions_limit, files_limit, runs_limit}
use Rattle.kho_writer.proofs.Parts.{fronts_written, blob_fits}
use Rattle.kho_writer.proofs.fronts.write_fronts.Goals as goal

pub write_records-requires-clause-sessions : goal.write_records-requires-clause-sessions
write_records-requires-clause-sessions c = sessions_limit c.args.carried.now c.as_slice.result.now c.as_slice.ensures c.requires.can

pub write_records-requires-clause-files : goal.write_records-requires-clause-files
write_records-requires-clause-files c = files_limit c.args.carried.now c.as_slice.result.now c.as_slice.ensures c.requires.can

pub write_records-requires-clause-runs : goal.write_records-requires-clause-runs
write_records-requires-clause-runs c = runs_limit c.args.carried.now c.as_slice.result.now c.as_slice.ensures c.requires.can

pub returns-clause-pages : goal.returns-clause-pages
returns-clause-pages c =
    fronts_written c.args.carried.now c.args.folios.now c.split_at_mut-entry.result.0.now c.split_at_mut-entry.result.1.now c.write_records.new.folios c.write_entry.new.folio
    c.index-entry-0.result c.args.chunk.0 c.first_number-header.result.0 (map number_at c.bound_frames-bounds.result) c.split_at_mut-entry.ensures.front c.split_at_mut-entry.ensures.back c.requires.count
    (c.write_records.ensures
    ∙ ap (λ (l : List CarriedSession). with_pages c.split_at_mut-entry.result.1.now (pages_in_use (frames_of c.split_at_mut-entry.result.1.now) l)) c.as_slice.ensures)
    c.first_number-header.ensures
    (c.bound_frames-bounds.ensures ∙ ap (λ (l : List CarriedBound). bound_frames (map (bound_among l) devices)) c.as_slice-2.ensures)
    c.write_entry.ensures.blob

pub returns-clause-fits : goal.returns-clause-fits
returns-clause-fits c =
    blob_fits c.args.carried.now c.args.folios.now c.split_at_mut-entry.result.1.now c.args.chunk.0 c.first_number-header.result.0 (map number_at c.bound_frames-bounds.result)
    c.split_at_mut-entry.ensures.back c.first_number-header.ensures
    (c.bound_frames-bounds.ensures ∙ ap (λ (l : List CarriedBound). bound_frames (map (bound_among l) devices)) c.as_slice-2.ensures) (omega (arith, c.write_entry.ensures.within))
