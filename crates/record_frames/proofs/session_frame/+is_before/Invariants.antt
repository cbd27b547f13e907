use Rattle.std.proofs.Common.{length}
use Rattle.record_frames.proofs.session_frame.+is_before.Given as goal

abbrev pub decreases-is_before : goal.decreases-is_before
decreases-is_before l = length l.one.now
