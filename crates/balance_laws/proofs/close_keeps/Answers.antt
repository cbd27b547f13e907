use Rattle.balance_laws.proofs.Closing as laws
use Rattle.balance_laws.proofs.close_keeps.Goals as goal

pub returns : goal.returns
returns c = laws.close_keeps
