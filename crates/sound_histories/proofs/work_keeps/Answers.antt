use Rattle.sound_histories.proofs.Works as laws
use Rattle.sound_histories.proofs.work_keeps.Goals as goal

pub returns : goal.returns
returns c = laws.work_keeps
