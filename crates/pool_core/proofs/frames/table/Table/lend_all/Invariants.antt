use Rattle.std.proofs.Common.{◌≡◌, ◌≤◌, ◌+◌, ◌++◌, length, map, vec_len, vec_capacity}
use Rattle.pool_core.specs.PoolTags.{with_tags, EachCanLend}
use Rattle.pool_core.specs.PoolLending.{zeroed_run}
use Rattle.pool_core.proofs.frames.table.Table.lend_all.Given as goal

-- the runs that are left lead from here to what all lead to from the first
abbrev pub invariant-loop-run : goal.invariant-loop-run
invariant-loop-run l =
    (with_tags (l.order.0 + 1) l.left l.self ≡ with_tags (l.order.0 + 1) l.runs l.initial.self)
    × (l.out.items ++ map (zeroed_run l.self.home l.order) l.left ≡ l.initial.out.items ++ map (zeroed_run l.initial.self.home l.order) l.runs)
    × EachCanLend l.self l.order.0 l.left
    × (vec_len l.out + length l.left ≤ vec_capacity l.out)

abbrev pub decreases-loop-run : goal.decreases-loop-run
decreases-loop-run l = length l.left
