use Rattle.sound_carried.proofs.Fits as laws
use Rattle.sound_carried.proofs.carried_is_fit.Goals as goal

pub returns : goal.returns
returns c = laws.carried_is_fit
