use Rattle.kho_laws.proofs.BlobMore.{spells_more}
use Rattle.kho_laws.proofs.tree.law_of_the_blob.Goals as goal

pub returns : goal.returns
returns c = spells_more
