use Rattle.sound_histories.proofs.Kexecs as laws
use Rattle.sound_histories.proofs.kexec_keeps.Goals as goal

pub returns : goal.returns
returns c = laws.kexec_keeps
