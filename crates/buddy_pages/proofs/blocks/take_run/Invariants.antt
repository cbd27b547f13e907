use Rattle.std.proofs.Common.{◌-◌}
use Rattle.buddy_pages.proofs.Take.{Taking}
use Rattle.buddy_pages.proofs.blocks.take_run.Given as goal

abbrev pub invariant-loop-size : goal.invariant-loop-size
invariant-loop-size l = Taking l.fn.map l.map l.first l.order l.size

abbrev pub decreases-loop-size : goal.decreases-loop-size
decreases-loop-size l = l.size - l.order
