use Rattle.std.proofs.Common.{[], map, ap, ◌∙◌, arith}
use Rattle.record_frames.specs.Files.{file_record}
use Rattle.record_frames.specs.State.{file_in}
use Rattle.kho_records.proofs.Adding.{ended}
use Rattle.kho_records.proofs.RunLists.{file_at_within, order_within, size_within, position_within}
use Rattle.kho_records.proofs.Shown.{one_file, files_shown}
use Rattle.kho_records.proofs.carrying.carried_files.Goals as goal

pub carried_file-requires-clause-order : goal.carried_file-requires-clause-order
carried_file-requires-clause-order c =
    order_within (file_record c.file-item.result) (file_at_within c.args.files.now c.loop-file.file-index c.file-item.result c.requires c.loop-file-test.true c.file-item.is)

pub carried_file-requires-clause-size : goal.carried_file-requires-clause-size
carried_file-requires-clause-size c =
    size_within (file_record c.file-item.result) (file_at_within c.args.files.now c.loop-file.file-index c.file-item.result c.requires c.loop-file-test.true c.file-item.is)

pub carried_file-requires-clause-position : goal.carried_file-requires-clause-position
carried_file-requires-clause-position c =
    position_within (file_record c.file-item.result) (file_at_within c.args.files.now c.loop-file.file-index c.file-item.result c.requires c.loop-file-test.true c.file-item.is)

pub returns : goal.returns
returns c = λ ram.
    ap (map (file_in ram)) c.from_vec.ensures
    ∙ ended (one_file ram) [] c.args.files.now c.loop-file.file-index (map (file_in ram) c.loop-file.carried.items) (c.loop-file.invariant ram) (omega arith)
    ∙ files_shown ram c.args.files.now
