use Rattle.ho_world.proofs.Rounds as rounds
use Rattle.ho_world.proofs.idle_is_next.Goals as goal

pub returns : goal.returns
returns c = rounds.idle_is_next
