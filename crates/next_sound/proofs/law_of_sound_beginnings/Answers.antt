use Rattle.next_sound.proofs.Beginning as laws
use Rattle.next_sound.proofs.law_of_sound_beginnings.Goals as goal

pub returns : goal.returns
returns c = laws.carried_begins_sound
