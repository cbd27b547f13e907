use Rattle.sound_histories.proofs.BlocksKept as laws
use Rattle.sound_histories.proofs.refused_block_keeps.Goals as goal

pub returns : goal.returns
returns c = laws.refused_block_keeps
