use Rattle.luo_calls.proofs.Preserves.{none_marked}
use Rattle.luo_calls.proofs.commands.preserve.mark_any.Goals as goal

pub returns-in-empty-clause-goes : goal.returns-in-empty-clause-goes
returns-in-empty-clause-goes g c = none_marked c.args.order c.args.runs.now c.args.at.now (g.R.Reach.shown c.args.reach.now) c.in-empty.len_below
