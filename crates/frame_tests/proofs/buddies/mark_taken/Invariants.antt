use Rattle.std.proofs.Common.{◌≡◌, take, length}
use Rattle.buddy_pages.specs.FreeFrames.{without_runs}
use Rattle.frame_tests.proofs.buddies.mark_taken.Given as goal

abbrev pub invariant-loop-frame : goal.invariant-loop-frame
invariant-loop-frame l = record {
  same : l.free.items ≡ without_runs 0 l.fn.free.items (take l.frame-index l.taken);
  long : length l.free.items ≡ length l.fn.free.items;
}
