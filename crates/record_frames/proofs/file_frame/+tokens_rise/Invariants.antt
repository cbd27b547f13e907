use Rattle.std.proofs.Common.{length}
use Rattle.record_frames.proofs.file_frame.+tokens_rise.Given as goal

abbrev pub decreases-tokens_rise : goal.decreases-tokens_rise
decreases-tokens_rise l = length l.slots.now
