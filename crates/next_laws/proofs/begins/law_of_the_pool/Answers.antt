use Rattle.next_laws.proofs.NextParts.{pool_is_next}
use Rattle.next_laws.proofs.begins.law_of_the_pool.Goals as goal

pub returns : goal.returns
returns c = pool_is_next
