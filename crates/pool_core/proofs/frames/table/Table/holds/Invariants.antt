use Rattle.std.proofs.Common.{◌≡◌, false}
use Rattle.pool_core.specs.PoolTags.{is_held_below}
use Rattle.pool_core.proofs.frames.table.Table.holds.Given as goal

-- no run of an order so far holds the frame
abbrev pub invariant-loop-o : goal.invariant-loop-o
invariant-loop-o l = is_held_below l.self.tags l.p.0 l.o ≡ false
