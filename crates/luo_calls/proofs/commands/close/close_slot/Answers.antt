use Rattle.luo_calls.proofs.Closes.{other_deeds, other_whole, outer_closes_if, outer_stops_if}
use Rattle.luo_calls.proofs.Sticking.{sticks_any}
use Rattle.ho_world.specs.Sequences.Parts.{close_acts}
use Rattle.std.proofs.Common.{refl, ap, sym, subst}
use Rattle.ho_base.specs.Objects.{session_no}
use Rattle.luo_calls.specs.declared.stuck.Stuck.{Stuck}
use Rattle.luo_calls.specs.Doing.{AreRest, SticksAfter, slot_found}
use Rattle.luo_calls.proofs.Nested.{outer_sticks, sticks_first}
use Rattle.luo_calls.proofs.commands.close.close_slot.Goals as goal

pub returns-in-Err-clause-stopped : goal.returns-in-Err-clause-stopped
returns-in-Err-clause-stopped g c =
    subst (λ (s : Stuck). SticksAfter (AreRest (close_acts c.args.name) (slot_found c.args.name c.args.slot)) s c.args.at.now c.args.at.now (g.R.Reach.shown c.args.reach.now) (g.R.Reach.shown c.begin_session.new.reach)) (sym c.empty_handed.ensures.stuck)
    (sticks_first (other_deeds c.args.name c.args.slot) (other_whole c.args.name c.args.slot) _ _ _ _ _ refl (sticks_any _ _ _ _ _ c.in-Err.ensures.sticks))

pub returns-then-is_out-clause-closes : goal.returns-then-is_out-clause-closes
returns-then-is_out-clause-closes g c =
    outer_closes_if c.args.name c.args.slot _ _ (session_no c.args.slot.0) _ (g.R.Reach.shown c.begin_session.new.reach) _ _ c.close_out.result c.in-Ok.ensures.opens (ap (λ h. h (session_no c.args.slot.0)) c.requires.free) c.close_out.ensures.closes

pub returns-then-is_out-clause-stopped : goal.returns-then-is_out-clause-stopped
returns-then-is_out-clause-stopped g c =
    outer_stops_if _ _ _ (session_no c.args.slot.0) _ (g.R.Reach.shown c.begin_session.new.reach) _ _ c.close_out.result c.in-Ok.ensures.opens (ap (λ h. h (session_no c.args.slot.0)) c.requires.free) c.close_out.ensures.stopped

pub returns-in-Err-close_other-clause-stopped : goal.returns-in-Err-close_other-clause-stopped
returns-in-Err-close_other-clause-stopped g c =
    subst (λ (s : Stuck). SticksAfter (AreRest (close_acts c.args.name) (slot_found c.args.name c.args.slot)) s c.args.at.now c.close_other.new.at (g.R.Reach.shown c.args.reach.now) (g.R.Reach.shown c.close_other.new.reach)) (sym c.empty_handed-in-Err-close_other.ensures.stuck)
    (outer_sticks _ _ _ (session_no c.args.slot.0) _ (g.R.Reach.shown c.begin_session.new.reach) _ _ c.in-Ok.ensures.opens (ap (λ h. h (session_no c.args.slot.0)) c.requires.free) c.in-Err-close_other.ensures.sticks)
