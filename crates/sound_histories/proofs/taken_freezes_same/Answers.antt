use Rattle.sound_histories.proofs.Kexecs as laws
use Rattle.sound_histories.proofs.taken_freezes_same.Goals as goal

pub returns : goal.returns
returns c = laws.taken_freezes_same
