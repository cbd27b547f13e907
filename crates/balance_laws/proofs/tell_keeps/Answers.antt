use Rattle.balance_laws.proofs.Reading as laws
use Rattle.balance_laws.proofs.tell_keeps.Goals as goal

pub returns : goal.returns
returns c = laws.tell_keeps
