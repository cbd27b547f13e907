use Rattle.kexec_laws.proofs.KexecNext as laws
use Rattle.kexec_laws.proofs.kexec_is_next.Goals as goal

pub returns : goal.returns
returns c = laws.kexec_is_next
