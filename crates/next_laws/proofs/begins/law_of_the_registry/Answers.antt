use Rattle.next_laws.proofs.NextParts.{registry_is_next}
use Rattle.next_laws.proofs.begins.law_of_the_registry.Goals as goal

pub returns : goal.returns
returns c = registry_is_next
