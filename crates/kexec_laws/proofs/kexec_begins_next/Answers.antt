use Rattle.kexec_laws.proofs.KexecAfter as laws
use Rattle.kexec_laws.proofs.kexec_begins_next.Goals as goal

pub returns : goal.returns
returns c = laws.kexec_begins_next
