use Rattle.kexec_laws.proofs.KexecAfter as laws
use Rattle.kexec_laws.proofs.refused_kexec_runs_on.Goals as goal

pub returns : goal.returns
returns c = laws.refused_kexec_runs_on
