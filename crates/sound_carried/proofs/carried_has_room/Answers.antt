use Rattle.sound_carried.proofs.Room as laws
use Rattle.sound_carried.proofs.carried_has_room.Goals as goal

pub returns : goal.returns
returns c = laws.carried_has_room
