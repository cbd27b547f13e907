use Rattle.std.proofs.Common.{map}
use Rattle.kho_records.specs.Owned.{run_view}
use Rattle.kho_records.proofs.Adding.{Added}
use Rattle.kho_records.proofs.RunLists.{one_run}
use Rattle.kho_records.proofs.users.add_runs.Given as goal

abbrev pub invariant-loop-run : goal.invariant-loop-run
invariant-loop-run l = Added (one_run l.order) (map run_view l.fn.users.items) l.runs l.run-index (map run_view l.users.items)
