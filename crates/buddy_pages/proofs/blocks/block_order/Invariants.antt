use Rattle.std.proofs.Common.{◌-◌}
use Rattle.buddy_pages.proofs.Seek.{Seeking}
use Rattle.buddy_pages.proofs.blocks.block_order.Given as goal

abbrev pub invariant-loop-size : goal.invariant-loop-size
invariant-loop-size l = Seeking l.map l.first l.order l.size

abbrev pub decreases-loop-size : goal.decreases-loop-size
decreases-loop-size l = 10 - l.size
