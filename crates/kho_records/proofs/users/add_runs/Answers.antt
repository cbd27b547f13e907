use Rattle.std.proofs.Common.{◌++◌, List, map, ap, ◌∙◌, arith}
use Rattle.folio_bitmaps.specs.Runs.{Run}
use Rattle.kho_records.specs.Owned.{run_view}
use Rattle.kho_records.proofs.Adding.{ended}
use Rattle.kho_records.proofs.RunLists.{one_run, runs_one}
use Rattle.kho_records.proofs.users.add_runs.Goals as goal

pub returns : goal.returns
returns c =
    ended (one_run c.args.order) (map run_view c.args.users.now.items) c.args.runs.now c.loop-run.run-index (map run_view c.loop-run.users.items) c.loop-run.invariant (omega arith)
    ∙ ap (λ (l : List Run). map run_view c.args.users.now.items ++ l) (runs_one c.args.order c.args.runs.now)
