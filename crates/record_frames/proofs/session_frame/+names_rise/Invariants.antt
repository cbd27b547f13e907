use Rattle.std.proofs.Common.{length}
use Rattle.record_frames.proofs.session_frame.+names_rise.Given as goal

abbrev pub decreases-names_rise : goal.decreases-names_rise
decreases-names_rise l = length l.slots.now
