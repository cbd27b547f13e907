use Rattle.balance_laws.proofs.Opening as laws
use Rattle.balance_laws.proofs.open_keeps.Goals as goal

pub returns : goal.returns
returns c = laws.open_keeps
