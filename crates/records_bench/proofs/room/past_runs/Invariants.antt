use Rattle.std.proofs.Common.{◌≡◌, ◌≤◌, drop}
use Rattle.records_bench.specs.Tests.{past_runs}
use Rattle.records_bench.proofs.room.past_runs.Given as goal

-- the runs that are left, from here on, end where all runs do; the frame is one behind a run of the machine's numbers
abbrev pub invariant-loop-run : goal.invariant-loop-run
invariant-loop-run l = past_runs l.order.0 l.at (drop l.run-index l.runs) ≡ past_runs l.order.0 l.from l.runs
