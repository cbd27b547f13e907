use Rattle.balance_laws.proofs.Refusing as laws
use Rattle.balance_laws.proofs.refused_kexec_keeps.Goals as goal

pub returns : goal.returns
returns c = laws.refused_kexec_keeps
