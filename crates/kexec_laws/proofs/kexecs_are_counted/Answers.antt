use Rattle.kexec_laws.proofs.KexecNumbers as laws
use Rattle.kexec_laws.proofs.kexecs_are_counted.Goals as goal

pub returns : goal.returns
returns c = laws.kexecs_counted
