use Rattle.sound_histories.proofs.Standing as laws
use Rattle.sound_histories.proofs.begun_stands.Goals as goal

pub returns : goal.returns
returns c = laws.begun_stands
