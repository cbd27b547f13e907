use Rattle.kho_laws.proofs.WrittenState.{written_carry}
use Rattle.kho_laws.proofs.carrying.law_of_carrying.Goals as goal

pub returns : goal.returns
returns c = written_carry c.law_of_spelling.ensures
