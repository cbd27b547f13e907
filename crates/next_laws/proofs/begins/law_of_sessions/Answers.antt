use Rattle.next_laws.proofs.NextParts.{session_is_next}
use Rattle.next_laws.proofs.begins.law_of_sessions.Goals as goal

pub returns : goal.returns
returns c = session_is_next
