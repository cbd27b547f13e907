use Rattle.sound_histories.proofs.Standing as laws
use Rattle.sound_histories.proofs.read_is_sound.Goals as goal

pub returns : goal.returns
returns c = laws.read_is_sound
