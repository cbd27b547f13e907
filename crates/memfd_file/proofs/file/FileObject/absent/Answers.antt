use Rattle.memfd_file.proofs.FileSteps.{absent_keeps, absent_is}
use Rattle.memfd_file.proofs.file.FileObject.absent.Goals as goal

pub invariant_of-result : goal.invariant_of-result
invariant_of-result c = rw (c.new.ensures.items, c.of.ensures) (absent_keeps c.args.home)

pub returns-clause-absent : goal.returns-clause-absent
returns-clause-absent c = rw (c.new.ensures.items, c.of.ensures) absent_is
