use Rattle.balance_laws.proofs.Reading as laws
use Rattle.balance_laws.proofs.seek_keeps.Goals as goal

pub returns : goal.returns
returns c = laws.seek_keeps
