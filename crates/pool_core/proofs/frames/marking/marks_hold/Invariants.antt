use Rattle.std.proofs.Common.{◌≡◌, false}
use Rattle.pool_core.specs.PoolFramesValues.{is_marked_below}
use Rattle.pool_core.proofs.frames.marking.marks_hold.Given as goal

-- no marked run of an order so far holds the frame
abbrev pub invariant-loop-o : goal.invariant-loop-o
invariant-loop-o l = is_marked_below l.marks.runs l.p.0 l.o ≡ false
