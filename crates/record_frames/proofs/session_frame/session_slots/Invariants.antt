use Rattle.record_frames.specs.Slots.{session_view, session_kept}
use Rattle.record_frames.proofs.Items.{IsRead}
use Rattle.record_frames.proofs.session_frame.session_slots.Given as goal

abbrev pub invariant-loop-i : goal.invariant-loop-i
invariant-loop-i l = IsRead session_view 128 session_kept l.count l.bytes l.i l.slots.items
