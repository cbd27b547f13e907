use Rattle.std.proofs.Common.{◌≡◌, length}
use Rattle.pool_core.specs.PoolAdopting.{without_adopted, EachReserves}
use Rattle.pool_core.proofs.frames.adopting.reserve_all.Given as goal

-- the runs that are left lead from here to what all lead to from the first
abbrev pub invariant-loop-run : goal.invariant-loop-run
invariant-loop-run l = (without_adopted l.left l.buddy ≡ without_adopted l.runs l.initial.buddy) × EachReserves l.left l.buddy

abbrev pub decreases-loop-run : goal.decreases-loop-run
decreases-loop-run l = length l.left
