use Rattle.std.proofs.Common.{◌-◌}
use Rattle.buddy_pages.proofs.Seek.{Counting}
use Rattle.buddy_pages.proofs.blocks.count_runs.Given as goal

abbrev pub invariant-loop-size : goal.invariant-loop-size
invariant-loop-size l = Counting l.map l.order l.size l.runs

abbrev pub decreases-loop-size : goal.decreases-loop-size
decreases-loop-size l = l.size - l.order
