use Rattle.sound_histories.proofs.ReadOnce as laws
use Rattle.sound_histories.proofs.read_binds_once.Goals as goal

pub returns : goal.returns
returns c = laws.read_binds_once
