use Rattle.balance_laws.proofs.Preserves as laws
use Rattle.balance_laws.proofs.preserve_keeps.Goals as goal

pub returns : goal.returns
returns c = laws.preserve_keeps
