use Rattle.luo_calls.proofs.Chains.{ready_after}
use Rattle.luo_calls.proofs.Truncates.{give_sticks, rest_goes, rest_sticks}
use Rattle.luo_calls.proofs.commands.truncate.end_truncate.Goals as goal

pub returns-in-Err-clause-stopped : goal.returns-in-Err-clause-stopped
returns-in-Err-clause-stopped g c = give_sticks _ c.args.order c.args.reply.now c.args.given.items c.requires.reply c.requires.given _ _ _ _ _ c.in-Err.ensures.same_at c.in-Err.ensures.sticks

pub end_answered-requires-clause-ready : goal.end_answered-requires-clause-ready
end_answered-requires-clause-ready g c = ready_after _ _ _ _ _ c.requires.ready c.in-Ok.ensures.goes

pub returns-in-Ok-clause-goes : goal.returns-in-Ok-clause-goes
returns-in-Ok-clause-goes g c = rest_goes _ c.args.order c.args.reply.now c.args.given.items c.requires.reply c.requires.given _ _ _ _ _ _ c.end_answered.result c.in-Ok.ensures.goes c.end_answered.ensures.goes

pub returns-in-Ok-clause-stopped : goal.returns-in-Ok-clause-stopped
returns-in-Ok-clause-stopped g c = rest_sticks _ c.args.order c.args.reply.now c.args.given.items c.requires.reply c.requires.given _ _ _ _ _ _ c.end_answered.result c.in-Ok.ensures.goes c.end_answered.ensures.same_at c.end_answered.ensures.sticks
