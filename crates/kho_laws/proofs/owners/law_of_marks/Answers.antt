use Rattle.kho_laws.proofs.MarkedSet.{marked_after}
use Rattle.kho_laws.proofs.owners.law_of_marks.Goals as goal

pub returns : goal.returns
returns c = marked_after
