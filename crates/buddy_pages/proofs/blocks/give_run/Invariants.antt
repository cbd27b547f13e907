use Rattle.std.proofs.Common.{◌-◌}
use Rattle.buddy_pages.proofs.Give.{Giving}
use Rattle.buddy_pages.proofs.blocks.give_run.Given as goal

abbrev pub invariant-loop-buddy : goal.invariant-loop-buddy
invariant-loop-buddy l = Giving l.fn.map l.map l.first l.order l.start l.size

abbrev pub decreases-loop-buddy : goal.decreases-loop-buddy
decreases-loop-buddy l = 9 - l.size
