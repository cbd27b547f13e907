use Rattle.record_frames.proofs.Records.{chunks_again}
use Rattle.record_frames.proofs.FoundChains.{chunks_found}
use Rattle.record_frames.proofs.laws.law_of_the_chain.Goals as goal

pub returns-clause-again : goal.returns-clause-again
returns-clause-again c = chunks_again

pub returns-clause-found : goal.returns-clause-found
returns-clause-found c = chunks_found
