use Rattle.record_frames.proofs.AreaSteps.{AreRead}
use Rattle.record_frames.proofs.handover.areas_in.Given as goal

abbrev pub invariant-loop-i : goal.invariant-loop-i
invariant-loop-i l = AreRead l.count l.bytes l.i l.areas.items
