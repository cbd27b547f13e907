use Rattle.std.proofs.Common.{◌≡◌, length}
use Rattle.pool_core.specs.PoolFramesValues.{are_different}
use Rattle.pool_core.proofs.frames.runs.are_compared_different.Given as goal

-- those that are left are different exactly where all are
abbrev pub invariant-loop-run : goal.invariant-loop-run
invariant-loop-run l = are_different l.left ≡ are_different l.runs

abbrev pub decreases-loop-run : goal.decreases-loop-run
decreases-loop-run l = length l.left
