use Rattle.balance_laws.proofs.Writing as laws
use Rattle.balance_laws.proofs.write_keeps.Goals as goal

pub returns : goal.returns
returns c = laws.write_keeps
