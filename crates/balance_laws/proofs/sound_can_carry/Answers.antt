use Rattle.balance_laws.proofs.CarriedAll as laws
use Rattle.balance_laws.proofs.sound_can_carry.Goals as goal

pub returns : goal.returns
returns c = laws.sound_can_carry
