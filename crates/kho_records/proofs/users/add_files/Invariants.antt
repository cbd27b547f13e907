use Rattle.std.proofs.Common.{map}
use Rattle.kho_records.specs.Owned.{run_view}
use Rattle.kho_records.proofs.Adding.{Added}
use Rattle.kho_records.proofs.RunLists.{read_runs}
use Rattle.kho_records.proofs.users.add_files.Given as goal

abbrev pub invariant-loop-file : goal.invariant-loop-file
invariant-loop-file l = Added read_runs (map run_view l.fn.users.items) l.files l.file-index (map run_view l.users.items)
