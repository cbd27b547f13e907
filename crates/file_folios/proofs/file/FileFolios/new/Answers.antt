use Rattle.file_folios.proofs.FileStates.{new_keeps, new_state}
use Rattle.file_folios.proofs.file.FileFolios.new.Goals as goal

pub invariant_of-result : goal.invariant_of-result
invariant_of-result c = new_keeps c.of.result.value c.args.order c.new.result.items c.requires c.new.ensures.items

pub returns-clause-state : goal.returns-clause-state
returns-clause-state c = new_state c.args.order c.new.result.items c.new.ensures.items
