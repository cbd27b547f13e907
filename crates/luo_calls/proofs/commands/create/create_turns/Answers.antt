use Rattle.ho_world.specs.Logs.{Deed, deed_at, end_with}
use Rattle.ho_events.specs.declared.reply.Reply.TheVariants.{Ok, OkSlot, NameTaken, SessionsFull}
use Rattle.ho_events.specs.declared.event.Event.TheVariants.{SessionBegin}
use Rattle.std.proofs.Common.{[], ◌∷◌, ◌++◌, refl}
use Rattle.ho_base.specs.Objects.{session_no}
use Rattle.std.proofs.lemmas.Result.{err_from_is_err_and}
use Rattle.luo_calls.proofs.Chains.{ready_after, then_goes}
use Rattle.luo_calls.proofs.Creates as creates
use Rattle.luo_calls.proofs.Nested as nested
use Rattle.luo_calls.proofs.commands.create.create_turns.Goals as goal

pub returns-in_err-slot-clause-sticks : goal.returns-in_err-slot-clause-sticks
returns-in_err-slot-clause-sticks g c =
    let p = err_from_is_err_and c.from_residual.result c.from_residual.ensures.1 in rw (p.1, p.2)
    (nested.sticks_first (creates.asked c.args.name NameTaken ++ end_with NameTaken ∷ []) (creates.taken_whole c.args.name) _ _ _ _ _ c.in_err-slot.ensures.same_at c.in_err-slot.ensures.sticks)

pub begin_out-requires-clause-ready : goal.begin_out-requires-clause-ready
begin_out-requires-clause-ready g c = ready_after _ _ _ _ _ c.requires.ready c.in_ok-slot.ensures.goes

pub returns-in_err-begin_out-in-OkSlot-clause-sticks : goal.returns-in_err-begin_out-in-OkSlot-clause-sticks
returns-in_err-begin_out-in-OkSlot-clause-sticks g c =
    let p = err_from_is_err_and c.from_residual-in_err-begin_out-in-OkSlot.result c.from_residual-in_err-begin_out-in-OkSlot.ensures.1 in rw (p.1, p.2)
    (nested.sticks_next (creates.asked c.args.name (OkSlot c.in-OkSlot.slot)) (creates.begun_out c.in-OkSlot.slot c.args.name ++ end_with Ok ∷ []) (creates.created_whole c.args.name c.in-OkSlot.slot) _ _ _ _ _ _ _
    (creates.reply_is c.args.name _ _ _ _ _ _ c.in-OkSlot.is c.in_ok-slot.ensures.goes) c.in_err-begin_out-in-OkSlot.ensures.same_at c.in_err-begin_out-in-OkSlot.ensures.sticks)

pub end_command-requires : goal.end_command-requires
end_command-requires g c =
    record { ready = ready_after _ _ _ _ _ (ready_after _ _ _ _ _ c.requires.ready c.in_ok-slot.ensures.goes) c.in_ok-begin_out-in-OkSlot.ensures.goes }

pub returns-in_err-end_command-in-OkSlot-clause-sticks : goal.returns-in_err-end_command-in-OkSlot-clause-sticks
returns-in_err-end_command-in-OkSlot-clause-sticks g c =
    let p = err_from_is_err_and c.from_residual-in_err-end_command-in-OkSlot.result c.from_residual-in_err-end_command-in-OkSlot.ensures.1 in rw (p.1, p.2)
    (nested.sticks_next (creates.asked c.args.name (OkSlot c.in-OkSlot.slot) ++ creates.begun_out c.in-OkSlot.slot c.args.name) (end_with Ok ∷ []) (creates.created_whole c.args.name c.in-OkSlot.slot) _ _ _ _ _ _ _
    (then_goes _ _ _ _ _ _ _ _ (creates.reply_is c.args.name _ _ _ _ _ _ c.in-OkSlot.is c.in_ok-slot.ensures.goes) c.in_ok-begin_out-in-OkSlot.ensures.goes) c.in_err-end_command-in-OkSlot.ensures.same_at c.in_err-end_command-in-OkSlot.ensures.sticks)

pub returns-in_ok-end_command-in-OkSlot-clause-comes : goal.returns-in_ok-end_command-in-OkSlot-clause-comes
returns-in_ok-end_command-in-OkSlot-clause-comes g c labels =
    creates.created labels c.args.name _ _ _ _ _ _ _ _ c.in-OkSlot.slot
    (creates.reply_is c.args.name _ _ _ _ _ _ c.in-OkSlot.is c.in_ok-slot.ensures.goes) c.in_ok-begin_out-in-OkSlot.ensures.goes c.in_ok-end_command-in-OkSlot.ensures.goes

pub end_command-requires-in-NameTaken : goal.end_command-requires-in-NameTaken
end_command-requires-in-NameTaken g c = record { ready = ready_after _ _ _ _ _ c.requires.ready c.in_ok-slot.ensures.goes }

pub returns-in_err-end_command-in-NameTaken-clause-sticks : goal.returns-in_err-end_command-in-NameTaken-clause-sticks
returns-in_err-end_command-in-NameTaken-clause-sticks g c =
    let p = err_from_is_err_and c.from_residual-in_err-end_command-in-NameTaken.result c.from_residual-in_err-end_command-in-NameTaken.ensures.1 in rw (p.1, p.2)
    (nested.sticks_next (creates.asked c.args.name NameTaken) (end_with NameTaken ∷ []) (creates.taken_whole c.args.name) _ _ _ _ _ _ _
    (creates.reply_is c.args.name _ _ _ _ _ _ c.in-NameTaken.is c.in_ok-slot.ensures.goes) c.in_err-end_command-in-NameTaken.ensures.same_at c.in_err-end_command-in-NameTaken.ensures.sticks)

pub returns-in_ok-end_command-in-NameTaken-clause-comes : goal.returns-in_ok-end_command-in-NameTaken-clause-comes
returns-in_ok-end_command-in-NameTaken-clause-comes g c labels =
    creates.taken labels c.args.name _ _ _ _ _ _ (creates.reply_is c.args.name _ _ _ _ _ _ c.in-NameTaken.is c.in_ok-slot.ensures.goes) c.in_ok-end_command-in-NameTaken.ensures.goes

pub end_command-requires-in-SessionsFull : goal.end_command-requires-in-SessionsFull
end_command-requires-in-SessionsFull g c = record { ready = ready_after _ _ _ _ _ c.requires.ready c.in_ok-slot.ensures.goes }

pub returns-in_err-end_command-in-SessionsFull-clause-sticks : goal.returns-in_err-end_command-in-SessionsFull-clause-sticks
returns-in_err-end_command-in-SessionsFull-clause-sticks g c =
    let p = err_from_is_err_and c.from_residual-in_err-end_command-in-SessionsFull.result c.from_residual-in_err-end_command-in-SessionsFull.ensures.1 in rw (p.1, p.2)
    (nested.sticks_next (creates.asked c.args.name SessionsFull) (end_with SessionsFull ∷ []) (creates.full_whole c.args.name) _ _ _ _ _ _ _
    (creates.reply_is c.args.name _ _ _ _ _ _ c.in-SessionsFull.is c.in_ok-slot.ensures.goes) c.in_err-end_command-in-SessionsFull.ensures.same_at c.in_err-end_command-in-SessionsFull.ensures.sticks)

pub returns-in_ok-end_command-in-SessionsFull-clause-comes : goal.returns-in_ok-end_command-in-SessionsFull-clause-comes
returns-in_ok-end_command-in-SessionsFull-clause-comes g c labels =
    creates.full labels c.args.name _ _ _ _ _ _ (creates.reply_is c.args.name _ _ _ _ _ _ c.in-SessionsFull.is c.in_ok-slot.ensures.goes) c.in_ok-end_command-in-SessionsFull.ensures.goes
