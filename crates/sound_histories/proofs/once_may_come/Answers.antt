use Rattle.sound_histories.proofs.Bindings as laws
use Rattle.sound_histories.proofs.once_may_come.Goals as goal

pub returns : goal.returns
returns c = laws.once_may_come
