use Rattle.kexec_laws.proofs.KexecNumbers as laws
use Rattle.kexec_laws.proofs.kexecs_are_numbered.Goals as goal

pub returns : goal.returns
returns c = laws.numbered_kexecs
