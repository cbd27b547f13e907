use Rattle.record_frames.proofs.FoundKept.{state_or_place}
use Rattle.record_frames.proofs.laws.law_of_refusing.Goals as goal

pub returns : goal.returns
returns c = state_or_place
