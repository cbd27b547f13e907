use Rattle.sound_histories.proofs.Standing as laws
use Rattle.sound_histories.proofs.refused_stands.Goals as goal

pub returns : goal.returns
returns c = laws.refused_stands
