use Rattle.std.proofs.Common.{◌≡◌, ◌≤◌, ◌+◌, ◌++◌, length, vec_len, vec_capacity}
use Rattle.pool_core.specs.PoolAdopting.{each_adopted, without_all, EachCanGoOut}
use Rattle.pool_core.proofs.frames.adopting.take_all.Given as goal

-- the runs that are left lead from here to what all lead to from the first
abbrev pub invariant-loop-run : goal.invariant-loop-run
invariant-loop-run l =
    (without_all l.left l.frames ≡ without_all l.runs l.initial.frames)
    × (l.out.items ++ each_adopted l.frames l.left ≡ l.initial.out.items ++ each_adopted l.initial.frames l.runs)
    × EachCanGoOut l.left l.frames
    × (vec_len l.out + length l.left ≤ vec_capacity l.out)

abbrev pub decreases-loop-run : goal.decreases-loop-run
decreases-loop-run l = length l.left
