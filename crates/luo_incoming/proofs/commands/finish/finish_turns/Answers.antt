use Rattle.luo_calls.proofs.Closes.{same_reply, slot_stops_if}
use Rattle.luo_incoming.proofs.Finishes.{no_name_whole, no_slot, none_comes, slot_comes_if}
use Rattle.std.proofs.Common.{[], ◌∷◌, ◌++◌, sym, subst}
use Rattle.luo_calls.proofs.Nested.{sticks_next, sticks_first}
use Rattle.ho_world.specs.Logs.{end_with}
use Rattle.ho_events.specs.declared.reply.Reply.TheVariants.{NoSession}
use Rattle.ho_world.specs.Sequences.Parts.{finish_acts}
use Rattle.ho_events.specs.declared.event.Event.TheVariants.{RegFindIn}
use Rattle.luo_calls.specs.declared.stuck.Stuck.{Stuck}
use Rattle.luo_calls.specs.Doing.{AreWhole, SticksAfter}
use Rattle.luo_incoming.specs.Retrieving.{slot_opened}
use Rattle.luo_calls.proofs.Chains.{ready_after}
use Rattle.luo_incoming.proofs.commands.finish.finish_turns.Goals as goal

pub returns-in-Err-clause-stopped : goal.returns-in-Err-clause-stopped
returns-in-Err-clause-stopped g c =
    subst (λ (s : Stuck). SticksAfter (AreWhole (finish_acts c.args.name)) s c.args.at.now c.find_in.new.at (g.R.Reach.shown c.args.reach.now) (g.R.Reach.shown c.find_in.new.reach)) (sym c.empty_handed.ensures.stuck)
    (sticks_first (no_slot c.args.name ++ end_with NoSession ∷ []) (no_name_whole c.args.name) _ _ _ _ _ c.in-Err.ensures.same_at c.in-Err.ensures.sticks)

pub finish_slot-requires-clause-ready : goal.finish_slot-requires-clause-ready
finish_slot-requires-clause-ready g c = ready_after _ _ _ _ _ c.requires.ready c.in-Ok.ensures.goes

pub end_command-requires : goal.end_command-requires
end_command-requires g c = record { ready = ready_after _ _ _ _ _ c.requires.ready c.in-Ok.ensures.goes }

pub returns-in-OkSlot-clause-comes : goal.returns-in-OkSlot-clause-comes
returns-in-OkSlot-clause-comes g c =
    slot_comes_if c.args.name c.in-OkSlot.slot _ _ _ _ _ _ c.finish_slot.result
    (same_reply _ _ (RegFindIn c.args.name) _ _ _ _ _ _ c.in-OkSlot.is c.in-Ok.ensures.goes) c.finish_slot.ensures.finishes

pub returns-in-OkSlot-clause-stopped : goal.returns-in-OkSlot-clause-stopped
returns-in-OkSlot-clause-stopped g c =
    slot_stops_if _ _ (slot_opened c.args.name c.in-OkSlot.slot) (λ rest h. h) _ _ _ _ _ _ c.finish_slot.result
    (same_reply _ _ (RegFindIn c.args.name) _ _ _ _ _ _ c.in-OkSlot.is c.in-Ok.ensures.goes) c.finish_slot.ensures.stopped

pub returns-in-Ok-end_command-clause-comes : goal.returns-in-Ok-end_command-clause-comes
returns-in-Ok-end_command-clause-comes g c labels =
    none_comes c.args.name _ _ _ _ _ _ labels (same_reply _ _ (RegFindIn c.args.name) _ _ _ _ _ _ c.in-NoSession.is c.in-Ok.ensures.goes) c.in-Ok-end_command.ensures.goes

pub returns-in-Err-end_command-clause-stopped : goal.returns-in-Err-end_command-clause-stopped
returns-in-Err-end_command-clause-stopped g c =
    subst (λ (s : Stuck). SticksAfter (AreWhole (finish_acts c.args.name)) s c.args.at.now c.end_command.new.at (g.R.Reach.shown c.args.reach.now) (g.R.Reach.shown c.end_command.new.reach)) (sym c.empty_handed-in-Err-end_command.ensures.stuck)
    (sticks_next (no_slot c.args.name) (end_with NoSession ∷ []) (no_name_whole c.args.name) _ _ _ _ _ _ _
    (same_reply _ _ (RegFindIn c.args.name) _ _ _ _ _ _ c.in-NoSession.is c.in-Ok.ensures.goes) c.in-Err-end_command.ensures.same_at c.in-Err-end_command.ensures.sticks)
