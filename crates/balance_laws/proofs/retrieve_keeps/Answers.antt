use Rattle.balance_laws.proofs.Retrieving as laws
use Rattle.balance_laws.proofs.retrieve_keeps.Goals as goal

pub returns : goal.returns
returns c = laws.retrieve_keeps
