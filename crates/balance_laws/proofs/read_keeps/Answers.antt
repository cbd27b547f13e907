use Rattle.balance_laws.proofs.Reading as laws
use Rattle.balance_laws.proofs.read_keeps.Goals as goal

pub returns : goal.returns
returns c = laws.read_keeps
