use Rattle.luo_calls.proofs.Closes.{outer_stops_if}
use Rattle.luo_incoming.proofs.Finishes.{other_deeds, other_whole, outer_finishes_if}
use Rattle.luo_calls.proofs.Sticking.{sticks_any}
use Rattle.ho_world.specs.Sequences.Parts.{finish_acts}
use Rattle.std.proofs.Common.{refl, ap, sym, subst}
use Rattle.ho_base.specs.Objects.{session_no}
use Rattle.luo_calls.specs.declared.stuck.Stuck.{Stuck}
use Rattle.luo_calls.specs.Doing.{AreRest, SticksAfter}
use Rattle.luo_incoming.specs.Retrieving.{slot_opened}
use Rattle.luo_calls.proofs.Nested.{outer_sticks, sticks_first}
use Rattle.luo_incoming.proofs.commands.finish.finish_slot.Goals as goal

pub returns-in-Err-clause-stopped : goal.returns-in-Err-clause-stopped
returns-in-Err-clause-stopped g c =
    subst (λ (s : Stuck). SticksAfter (AreRest (finish_acts c.args.name) (slot_opened c.args.name c.args.slot)) s c.args.at.now c.args.at.now (g.R.Reach.shown c.args.reach.now) (g.R.Reach.shown c.begin_session.new.reach)) (sym c.empty_handed.ensures.stuck)
    (sticks_first (other_deeds c.args.name c.args.slot) (other_whole c.args.name c.args.slot) _ _ _ _ _ refl (sticks_any _ _ _ _ _ c.in-Err.ensures.sticks))

pub returns-then-is_in-clause-finishes : goal.returns-then-is_in-clause-finishes
returns-then-is_in-clause-finishes g c =
    outer_finishes_if c.args.name c.args.slot _ _ (session_no c.args.slot.0) _ (g.R.Reach.shown c.begin_session.new.reach) _ _ c.finish_in.result c.in-Ok.ensures.opens (ap (λ h. h (session_no c.args.slot.0)) c.requires.free) c.finish_in.ensures.finishes

pub returns-then-is_in-clause-stopped : goal.returns-then-is_in-clause-stopped
returns-then-is_in-clause-stopped g c =
    outer_stops_if _ _ _ (session_no c.args.slot.0) _ (g.R.Reach.shown c.begin_session.new.reach) _ _ c.finish_in.result c.in-Ok.ensures.opens (ap (λ h. h (session_no c.args.slot.0)) c.requires.free) c.finish_in.ensures.stopped

pub returns-in-Err-finish_other-clause-stopped : goal.returns-in-Err-finish_other-clause-stopped
returns-in-Err-finish_other-clause-stopped g c =
    subst (λ (s : Stuck). SticksAfter (AreRest (finish_acts c.args.name) (slot_opened c.args.name c.args.slot)) s c.args.at.now c.finish_other.new.at (g.R.Reach.shown c.args.reach.now) (g.R.Reach.shown c.finish_other.new.reach)) (sym c.empty_handed-in-Err-finish_other.ensures.stuck)
    (outer_sticks _ _ _ (session_no c.args.slot.0) _ (g.R.Reach.shown c.begin_session.new.reach) _ _ c.in-Ok.ensures.opens (ap (λ h. h (session_no c.args.slot.0)) c.requires.free) c.in-Err-finish_other.ensures.sticks)
