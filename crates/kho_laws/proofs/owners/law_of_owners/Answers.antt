use Rattle.kho_laws.proofs.OwnedWell.{owners_kept}
use Rattle.kho_laws.proofs.owners.law_of_owners.Goals as goal

pub returns : goal.returns
returns c = owners_kept
