use Rattle.std.proofs.Common.{[], ◌∷◌, ◌++◌, refl, ap, sym, subst}
use Rattle.ho_base.specs.Objects.{session_no}
use Rattle.ho_events.specs.declared.reply.Reply.TheVariants.{NoSession}
use Rattle.ho_world.specs.Logs.{end_with}
use Rattle.ho_world.specs.Sequences.Preserving.{preserve_acts}
use Rattle.luo_calls.specs.Doing.{AreRest, SticksAfter, slot_found}
use Rattle.luo_calls.specs.Preserved.{added}
use Rattle.luo_calls.specs.declared.stuck.Stuck.{Stuck}
use Rattle.luo_calls.proofs.Nested as nested
use Rattle.luo_calls.proofs.Preserves.{outer_comes, outer_stops, refused_answer, refused_whole}
use Rattle.luo_calls.proofs.Sticking.{sticks_any}
use Rattle.luo_calls.proofs.commands.preserve.preserve_in.Goals as goal

pub returns-in-Err-clause-stopped : goal.returns-in-Err-clause-stopped
returns-in-Err-clause-stopped g c =
    subst (λ (s : Stuck). SticksAfter (AreRest (preserve_acts c.args.name c.args.token c.args.file) (slot_found c.args.name c.args.slot)) s c.args.at.now c.args.at.now (g.R.Reach.shown c.args.reach.now) (g.R.Reach.shown c.begin_session.new.reach)) (sym c.empty_handed.ensures.stuck)
    (nested.sticks_first (added c.args.slot c.args.name c.args.token c.args.file NoSession ++ end_with NoSession ∷ []) (refused_whole c.args.name c.args.token c.args.file c.args.slot NoSession refl) _ _ _ _ _ refl (sticks_any _ _ _ _ _ c.in-Err.ensures.sticks))

pub returns-in-None-clause-goes : goal.returns-in-None-clause-goes
returns-in-None-clause-goes g c =
    outer_comes c.args.slot c.args.name c.args.token c.args.file (session_no c.args.slot.0) _ _ _ (g.R.Reach.shown c.begin_session.new.reach) _ _ c.pin_and_add.result c.in-Ok.ensures.opens (ap (λ h. h (session_no c.args.slot.0)) c.requires.free) c.pin_and_add.ensures.goes

pub returns-in-None-clause-stopped : goal.returns-in-None-clause-stopped
returns-in-None-clause-stopped g c =
    outer_stops _ (session_no c.args.slot.0) _ _ _ (g.R.Reach.shown c.begin_session.new.reach) _ _ c.pin_and_add.result c.in-Ok.ensures.opens (ap (λ h. h (session_no c.args.slot.0)) c.requires.free) c.pin_and_add.ensures.stopped

pub returns-in-Ok-add-clause-goes : goal.returns-in-Ok-add-clause-goes
returns-in-Ok-add-clause-goes g c =
    nested.outer_goes _ _ _ (session_no c.args.slot.0) _ (g.R.Reach.shown c.begin_session.new.reach) _ _ c.in-Ok.ensures.opens (ap (λ h. h (session_no c.args.slot.0)) c.requires.free) c.in-Ok-add.ensures.goes

pub returns-in-Ok-add-clause-told : goal.returns-in-Ok-add-clause-told
returns-in-Ok-add-clause-told g c =
    refused_answer _ c.args.name c.args.token.0 c.admits.result _ _ c.in-Some.is c.admits.ensures.refusal c.in-Ok-add.ensures.answer

pub returns-clause-stopped : goal.returns-clause-stopped
returns-clause-stopped g c =
    subst (λ (s : Stuck). SticksAfter (AreRest (preserve_acts c.args.name c.args.token c.args.file) (slot_found c.args.name c.args.slot)) s c.args.at.now c.add.new.at (g.R.Reach.shown c.args.reach.now) (g.R.Reach.shown c.add.new.reach)) (sym c.empty_handed-in-Err-add.ensures.stuck)
    (nested.outer_sticks _ _ _ (session_no c.args.slot.0) _ (g.R.Reach.shown c.begin_session.new.reach) _ _ c.in-Ok.ensures.opens (ap (λ h. h (session_no c.args.slot.0)) c.requires.free)
    (nested.sticks_first (added c.args.slot c.args.name c.args.token c.args.file NoSession ++ end_with NoSession ∷ []) (refused_whole c.args.name c.args.token c.args.file c.args.slot NoSession refl) _ _ _ _ _ c.in-Err-add.ensures.same_at c.in-Err-add.ensures.sticks))
