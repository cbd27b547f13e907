use Rattle.luo_incoming.specs.Finishing.{session_ends_in}
use Rattle.ho_world.specs.Logs.{deed_at, end_with}
use Rattle.ho_events.specs.declared.reply.Reply.TheVariants.{Ok}
use Rattle.ho_events.specs.declared.event.Event.TheVariants.{RegDropIn, SessionFinish}
use Rattle.std.proofs.Common.{[], ◌∷◌, refl, ap, ◌∙◌, true}
use Rattle.std.proofs.lemmas.Result.{err_from_is_err_and}
use Rattle.ho_base.specs.Objects.{registry_no, session_no}
use Rattle.luo_calls.specs.Opened.{without}
use Rattle.luo_calls.proofs.Chains.{ready_after, then_goes}
use Rattle.luo_calls.proofs.Closes.{same_reply, still_free}
use Rattle.luo_incoming.proofs.Finishes.{answered_as}
use Rattle.luo_calls.proofs.Nested.{ready_without, sticks_first, sticks_next}
use Rattle.luo_incoming.proofs.commands.finish.end_in.Goals as goal

pub returns-in_err-finish_session-clause-sticks : goal.returns-in_err-finish_session-clause-sticks
returns-in_err-finish_session-clause-sticks g c =
    let b = without (session_no c.args.slot.0) (g.R.Reach.shown c.args.reach.now) in
    let p = err_from_is_err_and c.from_residual.result c.from_residual.ensures.1 in rw (p.1, p.2)
    (λ claims known. sticks_first (session_ends_in c.args.slot c.args.name claims) refl _ _ _ b _ c.in_err-finish_session.ensures.same_at c.in_err-finish_session.ensures.sticks)

pub drop_in-requires-clause-ready : goal.drop_in-requires-clause-ready
drop_in-requires-clause-ready g c =
    let a = g.R.Reach.shown c.args.reach.now in let n = session_no c.args.slot.0 in
    ready_after _ _ _ (without n a) _ (ready_without n c.args.at.now a c.requires.ready) (c.in_ok-finish_session.ensures.goes [] tt)

pub drop_in-requires-clause-free : goal.drop_in-requires-clause-free
drop_in-requires-clause-free g c =
    ap (λ h. h registry_no) (c.in_ok-finish_session.ensures.goes [] tt).hands ∙ still_free registry_no (session_no c.args.slot.0) (g.R.Reach.shown c.args.reach.now).hands c.requires.free

pub returns-in_err-drop_in-clause-sticks : goal.returns-in_err-drop_in-clause-sticks
returns-in_err-drop_in-clause-sticks g c =
    let b = without (session_no c.args.slot.0) (g.R.Reach.shown c.args.reach.now) in
    let p = err_from_is_err_and c.from_residual-in_err-drop_in.result c.from_residual-in_err-drop_in.ensures.1 in rw (p.1, p.2)
    (λ claims known. sticks_next (deed_at (session_no c.args.slot.0) claims (SessionFinish c.args.name) Ok ∷ []) (deed_at registry_no [] (RegDropIn c.args.name) Ok ∷ end_with Ok ∷ []) refl _ _ _ _ b _ _
    (same_reply _ claims (SessionFinish c.args.name) _ _ _ _ b _ (answered_as c.args.held c.args.name true _ c.requires.opened c.in_ok-finish_session.ensures.answer) (c.in_ok-finish_session.ensures.goes claims known)) c.in_err-drop_in.ensures.same_at c.in_err-drop_in.ensures.sticks)

pub end_command-requires : goal.end_command-requires
end_command-requires g c =
    let a = g.R.Reach.shown c.args.reach.now in let n = session_no c.args.slot.0 in
    record {
      ready =
          ready_after _ _ _ _ _ (ready_after _ _ _ (without n a) _ (ready_without n c.args.at.now a c.requires.ready) (c.in_ok-finish_session.ensures.goes [] tt))
          c.in_ok-drop_in.ensures.goes;
    }

pub returns-in_err-end_command-clause-sticks : goal.returns-in_err-end_command-clause-sticks
returns-in_err-end_command-clause-sticks g c =
    let b = without (session_no c.args.slot.0) (g.R.Reach.shown c.args.reach.now) in
    let p = err_from_is_err_and c.from_residual-in_err-end_command.result c.from_residual-in_err-end_command.ensures.1 in rw (p.1, p.2)
    (λ claims known. sticks_next (deed_at (session_no c.args.slot.0) claims (SessionFinish c.args.name) Ok ∷ deed_at registry_no [] (RegDropIn c.args.name) Ok ∷ []) (end_with Ok ∷ []) refl _ _ _ _ b _ _
    (then_goes _ _ _ _ _ b _ _ (same_reply _ claims (SessionFinish c.args.name) _ _ _ _ b _ (answered_as c.args.held c.args.name true _ c.requires.opened c.in_ok-finish_session.ensures.answer) (c.in_ok-finish_session.ensures.goes claims known)) c.in_ok-drop_in.ensures.goes) c.in_err-end_command.ensures.same_at c.in_err-end_command.ensures.sticks)

pub returns-clause-goes : goal.returns-clause-goes
returns-clause-goes g c claims known =
    let b = without (session_no c.args.slot.0) (g.R.Reach.shown c.args.reach.now) in
    then_goes _ _ _ _ _ b _ _
    (same_reply _ claims (SessionFinish c.args.name) _ _ _ _ b _ (answered_as c.args.held c.args.name true _ c.requires.opened c.in_ok-finish_session.ensures.answer) (c.in_ok-finish_session.ensures.goes claims known))
    (then_goes _ _ _ _ _ _ _ _ c.in_ok-drop_in.ensures.goes c.in_ok-end_command.ensures.goes)
