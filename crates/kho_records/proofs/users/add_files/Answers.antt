use Rattle.std.proofs.Common.{◌++◌, List, map, ap, ◌∙◌, arith}
use Rattle.folio_bitmaps.specs.Runs.{Run}
use Rattle.record_frames.specs.Files.{file_record}
use Rattle.kho_records.specs.Owned.{run_view}
use Rattle.kho_records.proofs.Adding.{ended}
use Rattle.kho_records.proofs.RunLists.{file_at_within, order_within, read_runs, files_runs}
use Rattle.kho_records.proofs.users.add_files.Goals as goal

pub add_file-requires : goal.add_file-requires
add_file-requires c =
    order_within (file_record c.file-item.result) (file_at_within c.args.files.now c.loop-file.file-index c.file-item.result c.requires c.loop-file-test.true c.file-item.is)

pub returns : goal.returns
returns c =
    ended read_runs (map run_view c.args.users.now.items) c.args.files.now c.loop-file.file-index (map run_view c.loop-file.users.items) c.loop-file.invariant (omega arith)
    ∙ ap (λ (l : List Run). map run_view c.args.users.now.items ++ l) (files_runs c.args.files.now)
