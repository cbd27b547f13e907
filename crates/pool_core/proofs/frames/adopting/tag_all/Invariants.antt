use Rattle.std.proofs.Common.{◌≡◌, length}
use Rattle.pool_core.specs.PoolAdopting.{adopted_tags, EachBegins}
use Rattle.pool_core.proofs.frames.adopting.tag_all.Given as goal

-- the runs that are left lead from here to what all lead to from the first
abbrev pub invariant-loop-run : goal.invariant-loop-run
invariant-loop-run l = (adopted_tags l.left l.tags.items ≡ adopted_tags l.runs l.initial.tags.items) × EachBegins (length l.tags.items) l.left

abbrev pub decreases-loop-run : goal.decreases-loop-run
decreases-loop-run l = length l.left
