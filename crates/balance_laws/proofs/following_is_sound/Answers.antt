use Rattle.balance_laws.proofs.NextWhole as laws
use Rattle.balance_laws.proofs.following_is_sound.Goals as goal

pub returns : goal.returns
returns c = laws.following_is_sound
