use Rattle.ho_world.specs.Logs.{end_with}
use Rattle.ho_events.specs.declared.reply.Reply.TheVariants.{Ok, OkSlot, AlreadyOpen, NoSession}
use Rattle.ho_events.specs.declared.event.Event.TheVariants.{RegOpen}
use Rattle.std.proofs.Common.{[], ◌∷◌, ◌++◌}
use Rattle.std.proofs.lemmas.Result.{err_from_is_err_and}
use Rattle.luo_calls.proofs.Chains.{ready_after, then_goes}
use Rattle.luo_calls.proofs.Closes.{same_reply}
use Rattle.luo_incoming.proofs.Opens as opens
use Rattle.luo_calls.proofs.Nested as nested
use Rattle.luo_incoming.proofs.commands.open.open_turns.Goals as goal

pub returns-in_err-slot-clause-sticks : goal.returns-in_err-slot-clause-sticks
returns-in_err-slot-clause-sticks g c =
    let p = err_from_is_err_and c.from_residual.result c.from_residual.ensures.1 in rw (p.1, p.2)
    (nested.sticks_first (opens.asked c.args.name AlreadyOpen ++ end_with AlreadyOpen ∷ []) (opens.twice_whole c.args.name) _ _ _ _ _ c.in_err-slot.ensures.same_at c.in_err-slot.ensures.sticks)

pub open_session-requires-clause-ready : goal.open_session-requires-clause-ready
open_session-requires-clause-ready g c = ready_after _ _ _ _ _ c.requires.ready c.in_ok-slot.ensures.goes

pub returns-in_err-open_session-in-OkSlot-clause-sticks : goal.returns-in_err-open_session-in-OkSlot-clause-sticks
returns-in_err-open_session-in-OkSlot-clause-sticks g c =
    let p = err_from_is_err_and c.from_residual-in_err-open_session-in-OkSlot.result c.from_residual-in_err-open_session-in-OkSlot.ensures.1 in rw (p.1, p.2)
    (nested.sticks_next (opens.asked c.args.name (OkSlot c.in-OkSlot.slot)) (opens.opened_up c.in-OkSlot.slot c.args.name ++ end_with Ok ∷ []) (opens.opened_whole c.args.name c.in-OkSlot.slot) _ _ _ _ _ _ _
    (same_reply _ _ (RegOpen c.args.name) _ _ _ _ _ _ c.in-OkSlot.is c.in_ok-slot.ensures.goes) c.in_err-open_session-in-OkSlot.ensures.same_at c.in_err-open_session-in-OkSlot.ensures.sticks)

pub end_command-requires : goal.end_command-requires
end_command-requires g c =
    record { ready = ready_after _ _ _ _ _ (ready_after _ _ _ _ _ c.requires.ready c.in_ok-slot.ensures.goes) c.in_ok-open_session-in-OkSlot.ensures.goes }

pub returns-in_err-end_command-in-OkSlot-clause-sticks : goal.returns-in_err-end_command-in-OkSlot-clause-sticks
returns-in_err-end_command-in-OkSlot-clause-sticks g c =
    let p = err_from_is_err_and c.from_residual-in_err-end_command-in-OkSlot.result c.from_residual-in_err-end_command-in-OkSlot.ensures.1 in rw (p.1, p.2)
    (nested.sticks_next (opens.asked c.args.name (OkSlot c.in-OkSlot.slot) ++ opens.opened_up c.in-OkSlot.slot c.args.name) (end_with Ok ∷ []) (opens.opened_whole c.args.name c.in-OkSlot.slot) _ _ _ _ _ _ _
    (then_goes _ _ _ _ _ _ _ _ (same_reply _ _ (RegOpen c.args.name) _ _ _ _ _ _ c.in-OkSlot.is c.in_ok-slot.ensures.goes) c.in_ok-open_session-in-OkSlot.ensures.goes) c.in_err-end_command-in-OkSlot.ensures.same_at c.in_err-end_command-in-OkSlot.ensures.sticks)

pub returns-in_ok-end_command-in-OkSlot-clause-comes : goal.returns-in_ok-end_command-in-OkSlot-clause-comes
returns-in_ok-end_command-in-OkSlot-clause-comes g c labels =
    opens.opened labels c.args.name _ _ _ _ _ _ _ _ c.in-OkSlot.slot
    (same_reply _ _ (RegOpen c.args.name) _ _ _ _ _ _ c.in-OkSlot.is c.in_ok-slot.ensures.goes) c.in_ok-open_session-in-OkSlot.ensures.goes c.in_ok-end_command-in-OkSlot.ensures.goes

pub end_command-requires-in-AlreadyOpen : goal.end_command-requires-in-AlreadyOpen
end_command-requires-in-AlreadyOpen g c = record { ready = ready_after _ _ _ _ _ c.requires.ready c.in_ok-slot.ensures.goes }

pub returns-in_err-end_command-in-AlreadyOpen-clause-sticks : goal.returns-in_err-end_command-in-AlreadyOpen-clause-sticks
returns-in_err-end_command-in-AlreadyOpen-clause-sticks g c =
    let p = err_from_is_err_and c.from_residual-in_err-end_command-in-AlreadyOpen.result c.from_residual-in_err-end_command-in-AlreadyOpen.ensures.1 in rw (p.1, p.2)
    (nested.sticks_next (opens.asked c.args.name AlreadyOpen) (end_with AlreadyOpen ∷ []) (opens.twice_whole c.args.name) _ _ _ _ _ _ _
    (same_reply _ _ (RegOpen c.args.name) _ _ _ _ _ _ c.in-AlreadyOpen.is c.in_ok-slot.ensures.goes) c.in_err-end_command-in-AlreadyOpen.ensures.same_at c.in_err-end_command-in-AlreadyOpen.ensures.sticks)

pub returns-in_ok-end_command-in-AlreadyOpen-clause-comes : goal.returns-in_ok-end_command-in-AlreadyOpen-clause-comes
returns-in_ok-end_command-in-AlreadyOpen-clause-comes g c labels =
    opens.refused_twice labels c.args.name _ _ _ _ _ _ (same_reply _ _ (RegOpen c.args.name) _ _ _ _ _ _ c.in-AlreadyOpen.is c.in_ok-slot.ensures.goes) c.in_ok-end_command-in-AlreadyOpen.ensures.goes

pub end_command-requires-in-NoSession : goal.end_command-requires-in-NoSession
end_command-requires-in-NoSession g c = record { ready = ready_after _ _ _ _ _ c.requires.ready c.in_ok-slot.ensures.goes }

pub returns-in_err-end_command-in-NoSession-clause-sticks : goal.returns-in_err-end_command-in-NoSession-clause-sticks
returns-in_err-end_command-in-NoSession-clause-sticks g c =
    let p = err_from_is_err_and c.from_residual-in_err-end_command-in-NoSession.result c.from_residual-in_err-end_command-in-NoSession.ensures.1 in rw (p.1, p.2)
    (nested.sticks_next (opens.asked c.args.name NoSession) (end_with NoSession ∷ []) (opens.none_whole c.args.name) _ _ _ _ _ _ _
    (same_reply _ _ (RegOpen c.args.name) _ _ _ _ _ _ c.in-NoSession.is c.in_ok-slot.ensures.goes) c.in_err-end_command-in-NoSession.ensures.same_at c.in_err-end_command-in-NoSession.ensures.sticks)

pub returns-in_ok-end_command-in-NoSession-clause-comes : goal.returns-in_ok-end_command-in-NoSession-clause-comes
returns-in_ok-end_command-in-NoSession-clause-comes g c labels =
    opens.refused_none labels c.args.name _ _ _ _ _ _ (same_reply _ _ (RegOpen c.args.name) _ _ _ _ _ _ c.in-NoSession.is c.in_ok-slot.ensures.goes) c.in_ok-end_command-in-NoSession.ensures.goes
