use Rattle.kexec_laws.proofs.KexecReplies as laws
use Rattle.kexec_laws.proofs.only_ends_are_ok.Goals as goal

pub returns : goal.returns
returns c = laws.only_ends_are_ok
