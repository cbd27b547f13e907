use Rattle.std.proofs.Common.{◌≡◌}
use Rattle.frame_tests.proofs.buddies.a_refused_take_changes_nothing.Given as goal

abbrev pub invariant-loop-frame : goal.invariant-loop-frame
invariant-loop-frame g l = l.free.items ≡ l.buddy
