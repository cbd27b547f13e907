use Rattle.balance_laws.proofs.Truncating as laws
use Rattle.balance_laws.proofs.truncate_keeps.Goals as goal

pub returns : goal.returns
returns c = laws.truncate_keeps
