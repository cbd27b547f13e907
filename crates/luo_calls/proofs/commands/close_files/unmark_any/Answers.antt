use Rattle.std.proofs.Common.{arith}
use Rattle.luo_calls.proofs.ClosedParts.{none_unmarked}
use Rattle.luo_calls.proofs.commands.close_files.unmark_any.Goals as goal

pub returns-in-empty-clause-goes : goal.returns-in-empty-clause-goes
returns-in-empty-clause-goes g c = none_unmarked c.args.order c.args.runs.now _ _ (omega (arith, c.in-empty.len_below))
