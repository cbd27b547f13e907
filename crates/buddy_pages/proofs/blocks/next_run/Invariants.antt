use Rattle.std.proofs.Common.{◌-◌, length}
use Rattle.buddy_pages.proofs.Seek.{Searching}
use Rattle.buddy_pages.proofs.blocks.next_run.Given as goal

abbrev pub invariant-loop-first : goal.invariant-loop-first
invariant-loop-first l = Searching l.map l.at l.order l.first

abbrev pub decreases-loop-first : goal.decreases-loop-first
decreases-loop-first l = length l.map - l.first
