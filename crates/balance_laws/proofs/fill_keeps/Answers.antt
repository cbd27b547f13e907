use Rattle.balance_laws.proofs.Writing as laws
use Rattle.balance_laws.proofs.fill_keeps.Goals as goal

pub returns : goal.returns
returns c = laws.fill_keeps
