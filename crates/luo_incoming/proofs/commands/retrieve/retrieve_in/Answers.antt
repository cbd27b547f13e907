use Rattle.ho_base.specs.Objects.{session_no}
use Rattle.ho_events.specs.declared.event.Event.TheVariants.{SessionTake}
use Rattle.ho_events.specs.declared.reply.Reply.TheVariants.{NoSession}
use Rattle.ho_world.specs.Logs.{deed_at, end_with}
use Rattle.std.proofs.Common.{[], ◌∷◌, refl, ap}
use Rattle.std.proofs.lemmas.Result.{err_from_is_err_and}
use Rattle.luo_calls.proofs.Nested.{outer_goes, outer_sticks, sticks_first}
use Rattle.luo_calls.proofs.Sticking.{sticks_any}
use Rattle.luo_incoming.proofs.Retrieves.{found_is, outer_comes, outer_stops, refused_answer, refused_whole}
use Rattle.luo_incoming.proofs.commands.retrieve.retrieve_in.Goals as goal

pub returns-in_err-held-clause-sticks : goal.returns-in_err-held-clause-sticks
returns-in_err-held-clause-sticks g c =
    let p = err_from_is_err_and c.from_residual.result c.from_residual.ensures.1 in rw (p.1, p.2)
    (sticks_first (deed_at (session_no c.args.slot.0) [] (SessionTake c.args.name c.args.token) NoSession ∷ end_with NoSession ∷ []) (refused_whole c.args.name c.args.token c.args.slot NoSession tt) _ _ _ _ _ refl (sticks_any _ _ _ _ _ c.in_err-held.ensures.sticks))

pub open_and_take-requires-clause-found : goal.open_and_take-requires-clause-found
open_and_take-requires-clause-found g c = found_is _ c.args.name c.args.token.0 c.find.result _ c.in-Ok.is c.find.ensures.exact

pub returns-in-Ok-clause-goes : goal.returns-in-Ok-clause-goes
returns-in-Ok-clause-goes g c =
    outer_comes c.args.slot c.args.name c.args.token (session_no c.args.slot.0) _ _ _ (g.R.Reach.shown c.begin_session.new.reach) _ _ c.open_and_take.result c.in_ok-held.ensures.opens (ap (λ f. f (session_no c.args.slot.0)) c.requires.free) c.open_and_take.ensures.goes

pub returns-in-Ok-clause-sticks : goal.returns-in-Ok-clause-sticks
returns-in-Ok-clause-sticks g c =
    outer_stops _ (session_no c.args.slot.0) _ _ _ (g.R.Reach.shown c.begin_session.new.reach) _ _ c.open_and_take.result c.in_ok-held.ensures.opens (ap (λ f. f (session_no c.args.slot.0)) c.requires.free) c.open_and_take.ensures.sticks

pub returns-in_err-reply-in-Err-clause-sticks : goal.returns-in_err-reply-in-Err-clause-sticks
returns-in_err-reply-in-Err-clause-sticks g c =
    let p = err_from_is_err_and c.from_residual-in_err-reply-in-Err.result c.from_residual-in_err-reply-in-Err.ensures.1 in rw (p.1, p.2)
    (outer_sticks _ _ _ (session_no c.args.slot.0) _ (g.R.Reach.shown c.begin_session.new.reach) _ _ c.in_ok-held.ensures.opens (ap (λ f. f (session_no c.args.slot.0)) c.requires.free)
    (sticks_first (deed_at (session_no c.args.slot.0) [] (SessionTake c.args.name c.args.token) NoSession ∷ end_with NoSession ∷ []) (refused_whole c.args.name c.args.token c.args.slot NoSession tt) _ _ _ _ _ c.in_err-reply-in-Err.ensures.same_at c.in_err-reply-in-Err.ensures.sticks))

pub returns-in_ok-reply-in-Err-clause-goes : goal.returns-in_ok-reply-in-Err-clause-goes
returns-in_ok-reply-in-Err-clause-goes g c =
    outer_goes _ _ _ (session_no c.args.slot.0) _ (g.R.Reach.shown c.begin_session.new.reach) _ _ c.in_ok-held.ensures.opens (ap (λ f. f (session_no c.args.slot.0)) c.requires.free) (c.in_ok-reply-in-Err.ensures.goes [] tt)

pub returns-in_ok-reply-in-Err-clause-told : goal.returns-in_ok-reply-in-Err-clause-told
returns-in_ok-reply-in-Err-clause-told g c =
    refused_answer _ c.args.name c.args.token.0 c.find.result _ _ c.in-Err.is c.find.ensures.exact c.in_ok-reply-in-Err.ensures.answer
