use Rattle.ho_world.proofs.AloneNext as alone
use Rattle.ho_world.proofs.alone_is_next.Goals as goal

pub returns : goal.returns
returns c = alone.alone_is_next
