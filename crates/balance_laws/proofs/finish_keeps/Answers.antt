use Rattle.balance_laws.proofs.Closing as laws
use Rattle.balance_laws.proofs.finish_keeps.Goals as goal

pub returns : goal.returns
returns c = laws.finish_keeps
