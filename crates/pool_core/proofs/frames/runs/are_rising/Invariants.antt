use Rattle.std.proofs.Common.{◌≡◌, length}
use Rattle.pool_core.specs.PoolFramesValues.{are_rising_from}
use Rattle.pool_core.proofs.frames.runs.are_rising.Given as goal

-- those that are left rise exactly where all do
abbrev pub invariant-loop-run : goal.invariant-loop-run
invariant-loop-run l = are_rising_from l.from l.left ≡ are_rising_from 0 l.runs

abbrev pub decreases-loop-run : goal.decreases-loop-run
decreases-loop-run l = length l.left
