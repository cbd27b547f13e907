use Rattle.balance_laws.proofs.Cold as laws
use Rattle.balance_laws.proofs.cold_is_sound.Goals as goal

pub returns : goal.returns
returns c = laws.cold_is_sound
