use Rattle.buddy_pages.proofs.Fill.{Filling}
use Rattle.buddy_pages.proofs.passes.all_but_first_free.Given as goal

abbrev pub invariant-loop-frame : goal.invariant-loop-frame
invariant-loop-frame l = Filling l.fn.frames l.map l.frame
