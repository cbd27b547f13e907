use Rattle.ho_world.specs.Logs.{Deed, deed_at, end_with}
use Rattle.ho_events.specs.declared.reply.Reply.TheVariants.{BadFd, PastEnd}
use Rattle.std.proofs.Common.{[], ◌∷◌, ◌++◌, refl}
use Rattle.std.proofs.lemmas.Result.{err_from_is_err_and}
use Rattle.luo_calls.proofs.Chains.{ready_after}
use Rattle.luo_calls.proofs.Nested as nested
use Rattle.luo_calls.proofs.QueryCommands as queries
use Rattle.luo_calls.proofs.commands.query.query_turns.Goals as goal

pub returns-in_err-end_command-clause-sticks : goal.returns-in_err-end_command-clause-sticks
returns-in_err-end_command-clause-sticks g c =
    let p = err_from_is_err_and c.from_residual.result c.from_residual.ensures.1 in rw (p.1, p.2)
    (nested.sticks_first (end_with BadFd ∷ []) (queries.no_file_whole c.args.labels.now.bound c.args.label c.args.query c.in_default.ensures.found) _ _ _ _ _ c.in_err-end_command.ensures.same_at c.in_err-end_command.ensures.sticks)

pub returns-in_default-clause-comes : goal.returns-in_default-clause-comes
returns-in_default-clause-comes g c =
    queries.no_file c.args.labels.now.bound c.args.label c.args.query c.in_default.ensures.found _ _ _ _ c.in_ok-end_command.ensures.goes

pub returns-in_default-with_capacity-clause-sticks : goal.returns-in_default-with_capacity-clause-sticks
returns-in_default-with_capacity-clause-sticks g c =
    nested.sticks_first (queries.asked_so c.in-Some.file c.args.query PastEnd ++ end_with PastEnd ∷ []) (queries.came_whole c.args.labels.now.bound c.args.label c.args.query c.in-Some.file c.in-Some.ensures.found PastEnd) _ _ _ _ _ refl (record { same = refl; cause = tt })

pub returns-in_err-reply-clause-sticks : goal.returns-in_err-reply-clause-sticks
returns-in_err-reply-clause-sticks g c =
    let p = err_from_is_err_and c.from_residual-in_err-reply.result c.from_residual-in_err-reply.ensures.1 in rw (p.1, p.2)
    (nested.sticks_first (queries.asked_so c.in-Some.file c.args.query PastEnd ++ end_with PastEnd ∷ []) (queries.came_whole c.args.labels.now.bound c.args.label c.args.query c.in-Some.file c.in-Some.ensures.found PastEnd) _ _ _ _ _ c.in_err-reply.ensures.same_at c.in_err-reply.ensures.sticks)

pub end_command-requires-2 : goal.end_command-requires-2
end_command-requires-2 g c = record { ready = ready_after _ _ _ _ _ c.requires.ready c.in_ok-reply.ensures.goes }

pub returns-in_err-end_command-2-clause-sticks : goal.returns-in_err-end_command-2-clause-sticks
returns-in_err-end_command-2-clause-sticks g c =
    let p = err_from_is_err_and c.from_residual-in_err-end_command-2.result c.from_residual-in_err-end_command-2.ensures.1 in rw (p.1, p.2)
    (nested.sticks_next (queries.asked_so c.in-Some.file c.args.query c.in_ok-reply.reply) (end_with c.in_ok-reply.reply ∷ []) (queries.came_whole c.args.labels.now.bound c.args.label c.args.query c.in-Some.file c.in-Some.ensures.found c.in_ok-reply.reply) _ _ _ _ _ _ _ c.in_ok-reply.ensures.goes c.in_err-end_command-2.ensures.same_at c.in_err-end_command-2.ensures.sticks)

pub returns-clause-comes : goal.returns-clause-comes
returns-clause-comes g c =
    queries.came c.args.labels.now.bound c.args.label c.args.query c.in-Some.file c.in-Some.ensures.found c.in_ok-reply.reply _ _ _ _ _ _ _ c.reply_copy-answer.ensures c.in_ok-reply.ensures.goes c.in_ok-end_command-2.ensures.goes
