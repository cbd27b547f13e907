use Rattle.balance_laws.proofs.Letting as laws
use Rattle.balance_laws.proofs.close_fd_keeps.Goals as goal

pub returns : goal.returns
returns c = laws.close_fd_keeps
