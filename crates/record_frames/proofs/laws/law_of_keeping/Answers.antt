use Rattle.record_frames.proofs.Once.{kept_again}
use Rattle.record_frames.proofs.FoundKept.{kept_found}
use Rattle.record_frames.proofs.laws.law_of_keeping.Goals as goal

pub returns-clause-again : goal.returns-clause-again
returns-clause-again c = kept_again

pub returns-clause-found : goal.returns-clause-found
returns-clause-found c = kept_found
