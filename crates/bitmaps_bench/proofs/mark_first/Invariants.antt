use Rattle.std.proofs.Common.{◌≡◌}
use Rattle.bitmaps_bench.proofs.mark_first.Given as goal

-- the machine has as many frames as before
abbrev pub invariant-loop-p : goal.invariant-loop-p
invariant-loop-p l = l.tracker.frames ≡ l.fn.tracker.frames
