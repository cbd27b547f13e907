use Rattle.record_frames.proofs.OneSheet.{session_chain}
use Rattle.record_frames.proofs.laws.law_of_session_frames.Goals as goal

pub returns : goal.returns
returns c = session_chain
