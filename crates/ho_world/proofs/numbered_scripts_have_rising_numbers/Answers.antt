use Rattle.ho_world.proofs.Rising as rising
use Rattle.ho_world.proofs.numbered_scripts_have_rising_numbers.Goals as goal

pub returns : goal.returns
returns c = rising.numbered_rises
