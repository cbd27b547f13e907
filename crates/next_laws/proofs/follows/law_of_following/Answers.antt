use Rattle.next_laws.proofs.Following.{carried_can_begin}
use Rattle.next_laws.proofs.follows.law_of_following.Goals as goal

pub returns : goal.returns
returns c = carried_can_begin
