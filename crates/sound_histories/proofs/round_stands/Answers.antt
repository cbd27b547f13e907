use Rattle.sound_histories.proofs.Standing as laws
use Rattle.sound_histories.proofs.round_stands.Goals as goal

pub returns : goal.returns
returns c = laws.round_stands
