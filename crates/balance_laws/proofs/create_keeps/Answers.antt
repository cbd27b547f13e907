use Rattle.balance_laws.proofs.Creating as laws
use Rattle.balance_laws.proofs.create_keeps.Goals as goal

pub returns : goal.returns
returns c = laws.create_keeps
