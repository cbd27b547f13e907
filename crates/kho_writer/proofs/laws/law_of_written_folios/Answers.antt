use Rattle.kho_writer.proofs.CarryAll.{folios_carry}
use Rattle.kho_writer.proofs.laws.law_of_written_folios.Goals as goal

pub returns : goal.returns
returns c = folios_carry c.law_of_the_written_chain.ensures c.law_of_marks.ensures c.law_of_carrying.ensures
