use Rattle.std.proofs.Common.{Ok, Err}
use Rattle.record_frames.specs.Rules.{version_1}
use Rattle.record_frames.specs.Reading.{chunks_at, records_at}
use Rattle.record_frames.specs.Sheeted.{ram_of}
use Rattle.record_frames.specs.Bounds.{bound_view}
use Rattle.record_frames.specs.Sessions.{records_view}
use Rattle.std.specs.Prelude.{map}
use Rattle.kho_records.specs.Chunks.{chunk_views}
use Rattle.kho_records.proofs.Limits.{records_within}
use Rattle.kho_records.proofs.KeptSteps.{chain_breaks, record_breaks, bound_breaks, all_read, told_handover, told_as_is}
use Rattle.kho_records.proofs.reading.read_frames.Goals as goal

pub returns-in-Err-2-clause-read : goal.returns-in-Err-2-clause-read
returns-in-Err-2-clause-read c =
    let ram = ram_of c.args.frames.now in
    let handover = told_handover ram c.args.entry c.in_ok-handover.field-0 c.in-Ok.handover c.in-Ok.is c.in_ok-handover.ensures in
    chain_breaks ram c.args.entry c.in-Ok.handover handover c.in-Err-2.at
    (told_as_is (λ v. chunk_views v.items) c.in_ok-chunks.field-0 (Err c.in-Err-2.at) (chunks_at ram c.in-Ok.handover.chunk) c.in-Err-2.is c.in_ok-chunks.ensures.read)

pub returns-in-Err-3-clause-read : goal.returns-in-Err-3-clause-read
returns-in-Err-3-clause-read c =
    let ram = ram_of c.args.frames.now in
    let handover = told_handover ram c.args.entry c.in_ok-handover.field-0 c.in-Ok.handover c.in-Ok.is c.in_ok-handover.ensures in
    record_breaks ram c.args.entry c.in-Ok.handover handover (chunk_views c.in-Ok-2.chunks.items) c.in-Err-3.at
    (told_as_is (λ v. chunk_views v.items) c.in_ok-chunks.field-0 (Ok c.in-Ok-2.chunks) (chunks_at ram c.in-Ok.handover.chunk) c.in-Ok-2.is c.in_ok-chunks.ensures.read)
    (told_as_is records_view c.in_ok-records.field-0 (Err c.in-Err-3.at) (records_at version_1 ram c.in-Ok.handover.luo.header) c.in-Err-3.is c.in_ok-records.ensures.read)

pub returns-in-Err-read_bounds-clause-read : goal.returns-in-Err-read_bounds-clause-read
returns-in-Err-read_bounds-clause-read c =
    let ram = ram_of c.args.frames.now in
    let handover = told_handover ram c.args.entry c.in_ok-handover.field-0 c.in-Ok.handover c.in-Ok.is c.in_ok-handover.ensures in
    bound_breaks ram c.args.entry c.in-Ok.handover handover (chunk_views c.in-Ok-2.chunks.items) (records_view c.in-Ok-3.records) c.in-Err-read_bounds.kind
    (told_as_is (λ v. chunk_views v.items) c.in_ok-chunks.field-0 (Ok c.in-Ok-2.chunks) (chunks_at ram c.in-Ok.handover.chunk) c.in-Ok-2.is c.in_ok-chunks.ensures.read)
    (told_as_is records_view c.in_ok-records.field-0 (Ok c.in-Ok-3.records) (records_at version_1 ram c.in-Ok.handover.luo.header) c.in-Ok-3.is c.in_ok-records.ensures.read)
    c.in-Err-read_bounds.ensures

pub returns-clause-read : goal.returns-clause-read
returns-clause-read c =
    let ram = ram_of c.args.frames.now in
    let handover = told_handover ram c.args.entry c.in_ok-handover.field-0 c.in-Ok.handover c.in-Ok.is c.in_ok-handover.ensures in
    let records = told_as_is records_view c.in_ok-records.field-0 (Ok c.in-Ok-3.records) (records_at version_1 ram c.in-Ok.handover.luo.header) c.in-Ok-3.is c.in_ok-records.ensures.read in
    record {
      tree = handover.tree;
      within = handover.within;
      spelled = handover.spelled;
      kept = all_read ram c.args.entry c.in-Ok.handover handover (chunk_views c.in-Ok-2.chunks.items) (records_view c.in-Ok-3.records) (map bound_view c.in-Ok-read_bounds.bounds)
          (told_as_is (λ v. chunk_views v.items) c.in_ok-chunks.field-0 (Ok c.in-Ok-2.chunks) (chunks_at ram c.in-Ok.handover.chunk) c.in-Ok-2.is c.in_ok-chunks.ensures.read)
          records c.in-Ok-read_bounds.ensures;
      limits = records_within version_1 ram c.in-Ok.handover.luo.header (records_view c.in-Ok-3.records) records;
    }
