use Rattle.sound_histories.proofs.BlocksKept as laws
use Rattle.sound_histories.proofs.ended_block_keeps.Goals as goal

pub returns : goal.returns
returns c = laws.ended_block_keeps
