use Rattle.std.proofs.Common.{arith, ap, length}
use Rattle.luo_calls.proofs.ClosedParts.{none_given}
use Rattle.luo_calls.proofs.commands.close_files.give_any.Goals as goal

pub returns-in-empty-clause-goes : goal.returns-in-empty-clause-goes
returns-in-empty-clause-goes g c = none_given c.args.order c.args.folios.now.items _ _ (omega (arith, c.in-empty.len_below, ap length c.as_slice.ensures.value))
