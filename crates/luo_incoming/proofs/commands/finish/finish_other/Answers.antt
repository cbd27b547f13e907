use Rattle.luo_calls.proofs.Closes.{same_reply}
use Rattle.luo_incoming.proofs.Finishes.{answered_as, other_deeds, other_finishes, other_whole}
use Rattle.ho_world.specs.Logs.{deed_at, end_with}
use Rattle.ho_events.specs.declared.reply.Reply.TheVariants.{NoSession}
use Rattle.std.proofs.Common.{[], ◌∷◌, false}
use Rattle.std.proofs.lemmas.Result.{err_from_is_err_and}
use Rattle.ho_base.specs.Objects.{session_no}
use Rattle.ho_events.specs.declared.event.Event.TheVariants.{SessionFinish}
use Rattle.luo_calls.specs.Opened.{without}
use Rattle.luo_calls.proofs.Chains.{ready_after}
use Rattle.luo_calls.proofs.Nested.{ready_without, sticks_first, sticks_next}
use Rattle.luo_incoming.proofs.commands.finish.finish_other.Goals as goal

pub returns-in_err-finish_session-clause-sticks : goal.returns-in_err-finish_session-clause-sticks
returns-in_err-finish_session-clause-sticks g c =
    let b = without (session_no c.args.slot.0) (g.R.Reach.shown c.args.reach.now) in
    let p = err_from_is_err_and c.from_residual.result c.from_residual.ensures.1 in rw (p.1, p.2)
    (sticks_first (other_deeds c.args.name c.args.slot) (other_whole c.args.name c.args.slot) _ _ _ b _ c.in_err-finish_session.ensures.same_at c.in_err-finish_session.ensures.sticks)

pub end_command-requires : goal.end_command-requires
end_command-requires g c =
    let a = g.R.Reach.shown c.args.reach.now in let n = session_no c.args.slot.0 in
    record { ready = ready_after _ _ _ (without n a) _ (ready_without n c.args.at.now a c.requires.ready) (c.in_ok-finish_session.ensures.goes [] tt) }

pub returns-in_err-end_command-clause-sticks : goal.returns-in_err-end_command-clause-sticks
returns-in_err-end_command-clause-sticks g c =
    let b = without (session_no c.args.slot.0) (g.R.Reach.shown c.args.reach.now) in
    let p = err_from_is_err_and c.from_residual-in_err-end_command.result c.from_residual-in_err-end_command.ensures.1 in rw (p.1, p.2)
    (sticks_next (deed_at (session_no c.args.slot.0) [] (SessionFinish c.args.name) NoSession ∷ []) (end_with NoSession ∷ []) (other_whole c.args.name c.args.slot) _ _ _ _ b _ _
    (same_reply _ _ (SessionFinish c.args.name) _ _ _ _ b _ (answered_as c.args.held c.args.name false _ c.requires.other c.in_ok-finish_session.ensures.answer) (c.in_ok-finish_session.ensures.goes [] tt))
    c.in_err-end_command.ensures.same_at c.in_err-end_command.ensures.sticks)

pub returns-clause-finishes : goal.returns-clause-finishes
returns-clause-finishes g c =
    let b = without (session_no c.args.slot.0) (g.R.Reach.shown c.args.reach.now) in
    other_finishes c.args.name c.args.slot _ _ _ b _ _
    (same_reply _ _ (SessionFinish c.args.name) _ _ _ _ b _ (answered_as c.args.held c.args.name false _ c.requires.other c.in_ok-finish_session.ensures.answer) (c.in_ok-finish_session.ensures.goes [] tt))
    c.in_ok-end_command.ensures.goes
