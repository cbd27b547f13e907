use Rattle.ho_base.specs.Objects.{file_no, session_no}
use Rattle.ho_base.specs.declared.numbers.Kind.TheVariants.{Memfd}
use Rattle.ho_events.specs.declared.event.Event.TheVariants.{FileOpenHeld, SessionTake}
use Rattle.ho_events.specs.declared.reply.Reply.TheVariants.{Ok, OkFile}
use Rattle.ho_world.specs.Acts.{HasToken, IsFile, single}
use Rattle.ho_world.specs.Logs.{deed_at, end_with}
use Rattle.ho_world.specs.Sequences.Sessions.{listed, retrieve_acts}
use Rattle.std.proofs.Common.{[], ◌∷◌, ◌++◌, sym, subst}
use Rattle.std.proofs.lemmas.Result.{err_from_is_err_and}
use Rattle.luo_calls.specs.Doing.{AreRest, SticksAfter}
use Rattle.luo_calls.specs.Opened.{without}
use Rattle.luo_calls.specs.declared.stuck.Stuck.{Stuck}
use Rattle.luo_calls.proofs.Chains.{ready_after}
use Rattle.luo_calls.proofs.Nested.{holds_goes, let_go_stuck_at, sticks_first, sticks_next, under_at, within_goes}
use Rattle.luo_incoming.specs.Retrieving.{retrieve_deeds, slot_opened}
use Rattle.luo_incoming.specs.declared.commands.retrieve.Retrieved.TheVariants.{Taken}
use Rattle.luo_incoming.proofs.Retrieves.{given_answer, taken_goes, taken_whole, token_claimed}
use Rattle.luo_incoming.proofs.commands.retrieve.open_and_take.Goals as goal

pub under-requires : goal.under-requires
under-requires g c = let_go_stuck_at _ _ _ _ (session_no c.args.slot.0) _ _ _ c.of_session-number.ensures c.in-Err.ensures.sticks c.requires.holds

pub returns-in-Err-clause-sticks : goal.returns-in-Err-clause-sticks
returns-in-Err-clause-sticks g c =
    let a = g.R.Reach.shown c.args.reach.now in let n = session_no c.args.slot.0 in
    subst (λ (s : Stuck). SticksAfter (AreRest (retrieve_acts c.args.name c.args.token) (slot_opened c.args.name c.args.slot)) s c.args.at.now c.open_held.new.at (without n a) (g.R.Reach.shown c.under.new.reach)) (sym c.under.ensures.stuck)
    (sticks_first (retrieve_deeds c.args.slot c.args.name c.args.token (Taken c.args.file single c.args.handle) ++ end_with Ok ∷ []) (taken_whole c.args.name c.args.token c.args.slot c.args.file single c.args.handle) _ _ _ (without n a) _ c.in-Err.ensures.same_at
    (under_at _ _ _ _ n a _ _ _ c.of_session-number.ensures c.in-Err.ensures.sticks c.requires.holds c.under.ensures.ended))

pub take_token-requires-clause-ready : goal.take_token-requires-clause-ready
take_token-requires-clause-ready g c = ready_after _ _ _ _ _ c.requires.ready c.in-Ok.ensures.goes

pub take_token-requires-clause-holds : goal.take_token-requires-clause-holds
take_token-requires-clause-holds g c = holds_goes _ _ _ _ _ _ _ c.requires.holds c.in-Ok.ensures.goes

pub returns-in_err-_reply-clause-sticks : goal.returns-in_err-_reply-clause-sticks
returns-in_err-_reply-clause-sticks g c =
    let a = g.R.Reach.shown c.args.reach.now in let n = session_no c.args.slot.0 in
    let a1 = g.R.Reach.shown c.open_held.new.reach in
    let p = err_from_is_err_and c.from_residual.result c.from_residual.ensures.1 in rw (p.1, p.2)
    (sticks_next (deed_at (file_no c.args.file.0) (IsFile c.args.file Memfd c.in-Ok.order ∷ []) FileOpenHeld Ok ∷ [])
    (deed_at n (HasToken c.args.slot c.args.token.0 (listed c.args.file c.args.handle) ∷ []) (SessionTake c.args.name c.args.token) (OkFile c.args.file) ∷ end_with Ok ∷ [])
    (taken_whole c.args.name c.args.token c.args.slot c.args.file c.in-Ok.order c.args.handle) _ _ _ _ (without n a) (without n a1) _
    (within_goes _ _ _ n a a1 c.in-Ok.ensures.goes) c.in_err-_reply.ensures.same_at c.in_err-_reply.ensures.sticks)

pub returns-clause-goes : goal.returns-clause-goes
returns-clause-goes g c =
    let a = g.R.Reach.shown c.args.reach.now in let n = session_no c.args.slot.0 in
    let a1 = g.R.Reach.shown c.open_held.new.reach in
    taken_goes c.args.slot c.args.name c.args.token c.args.file c.in-Ok.order c.args.handle _ _ _ _ (without n a) (without n a1) _
    (given_answer _ c.args.name c.args.token.0 (c.args.file, c.args.handle) _ c.requires.found c.in_ok-_reply.ensures.answer)
    (within_goes _ _ _ n a a1 c.in-Ok.ensures.goes)
    (c.in_ok-_reply.ensures.goes (HasToken c.args.slot c.args.token.0 (listed c.args.file c.args.handle) ∷ [])
    (token_claimed a1 a1.hands c.args.slot c.args.held c.args.name c.args.token.0 c.args.file c.args.handle (holds_goes _ _ _ n a a1 _ c.requires.holds c.in-Ok.ensures.goes).held c.requires.found))
