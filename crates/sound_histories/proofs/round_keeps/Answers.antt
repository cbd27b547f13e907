use Rattle.sound_histories.proofs.BlocksKept as laws
use Rattle.sound_histories.proofs.round_keeps.Goals as goal

pub returns : goal.returns
returns c = laws.round_keeps
