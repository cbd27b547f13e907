use Rattle.std.proofs.Common.{sym, subst}
use Rattle.ho_base.specs.Objects.{session_no}
use Rattle.ho_world.specs.Sequences.Preserving.{preserve_acts}
use Rattle.luo_calls.specs.Doing.{AreRest, SticksAfter, slot_found}
use Rattle.luo_calls.specs.Opened.{without}
use Rattle.luo_calls.specs.declared.stuck.Stuck.{Stuck}
use Rattle.luo_calls.proofs.Chains.{ready_after}
use Rattle.luo_calls.proofs.Closes.{under_after}
use Rattle.luo_calls.proofs.Nested as nested
use Rattle.luo_calls.proofs.Preserves as preserves
use Rattle.luo_calls.proofs.commands.preserve.pin_and_add.Goals as goal

pub returns-in-Err-clause-stopped : goal.returns-in-Err-clause-stopped
returns-in-Err-clause-stopped g c =
    let a = g.R.Reach.shown c.args.reach.now in let n = session_no c.args.slot.0 in
    subst (λ (s : Stuck). SticksAfter (AreRest (preserve_acts c.args.name c.args.token c.args.file) (slot_found c.args.name c.args.slot)) s c.args.at.now c.pin_file.new.at (without n a) (g.R.Reach.shown c.under-stuck.new.reach)) (sym c.under-stuck.ensures.stuck)
    (preserves.pin_stops c.args.name c.args.token c.args.file c.args.slot _ _ _ (without n a) _
    (under_after _ _ _ _ n a _ _ _ c.of_session-number.ensures c.in-Err.ensures.stopped c.requires.holds c.under-stuck.ensures.ended))

pub add_pinned-requires-clause-ready : goal.add_pinned-requires-clause-ready
add_pinned-requires-clause-ready g c = ready_after _ _ _ _ _ c.requires.ready c.in-Ok.ensures.goes

pub returns-in-Ok-add_pinned-clause-goes : goal.returns-in-Ok-add_pinned-clause-goes
returns-in-Ok-add_pinned-clause-goes g c =
    let a = g.R.Reach.shown c.args.reach.now in let n = session_no c.args.slot.0 in
    preserves.tried_goes c.args.name c.args.token c.args.file c.args.slot c.in-Ok.pin _ _ _ _ (without n a) (without n (g.R.Reach.shown c.pin_file.new.reach)) _ c.in-Ok-add_pinned.ensures.same (nested.within_goes _ _ _ n a _ c.in-Ok.ensures.goes) c.in-Ok-add_pinned.ensures.goes

pub returns-in-Err-add_pinned-clause-stopped : goal.returns-in-Err-add_pinned-clause-stopped
returns-in-Err-add_pinned-clause-stopped g c =
    let a = g.R.Reach.shown c.args.reach.now in let n = session_no c.args.slot.0 in
    subst (λ (s : Stuck). SticksAfter (AreRest (preserve_acts c.args.name c.args.token c.args.file) (slot_found c.args.name c.args.slot)) s c.args.at.now c.add_pinned.new.at (without n a) (g.R.Reach.shown c.add_pinned.new.reach)) (sym c.empty_handed.ensures.stuck)
    (preserves.after_stops c.args.name c.args.token c.args.file c.args.slot c.in-Ok.pin _ _ _ _ (without n a) (without n (g.R.Reach.shown c.pin_file.new.reach)) _ c.in-Ok.ensures.told (nested.within_goes _ _ _ n a _ c.in-Ok.ensures.goes) c.in-Err-add_pinned.ensures.sticks)
