use Rattle.balance_laws.proofs.Making as laws
use Rattle.balance_laws.proofs.memfd_keeps.Goals as goal

pub returns : goal.returns
returns c = laws.memfd_keeps
