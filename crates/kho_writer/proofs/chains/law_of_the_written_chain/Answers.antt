use Rattle.kho_writer.proofs.OtherFrames.{written_is_chain}
use Rattle.kho_writer.proofs.chains.law_of_the_written_chain.Goals as goal

pub returns : goal.returns
returns c = written_is_chain c.law_of_the_chain.ensures.found
