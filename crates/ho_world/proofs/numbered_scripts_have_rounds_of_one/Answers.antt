use Rattle.ho_world.proofs.Rounds as rounds
use Rattle.ho_world.proofs.numbered_scripts_have_rounds_of_one.Goals as goal

pub returns : goal.returns
returns c = rounds.numbered_rounds
