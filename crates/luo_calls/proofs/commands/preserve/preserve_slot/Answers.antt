use Rattle.std.proofs.Common.{[], ◌∷◌, sym, subst}
use Rattle.ho_world.specs.Logs.{end_with}
use Rattle.ho_world.specs.Sequences.Preserving.{preserve_acts}
use Rattle.luo_calls.specs.Doing.{AreRest, SticksAfter, slot_found}
use Rattle.luo_calls.specs.Preserved.{preserve_deeds, reply_to}
use Rattle.luo_calls.specs.declared.stuck.Stuck.{Stuck}
use Rattle.luo_calls.proofs.Chains.{ready_after}
use Rattle.luo_calls.proofs.Nested as nested
use Rattle.luo_calls.proofs.Preserves.{came_slot, came_whole}
use Rattle.luo_calls.proofs.commands.preserve.preserve_slot.Goals as goal

pub end_told-requires-clause-ready : goal.end_told-requires-clause-ready
end_told-requires-clause-ready g c = ready_after _ _ _ _ _ c.requires.ready c.in_ok-preserved.ensures.goes

pub returns-in-Ok-clause-goes : goal.returns-in-Ok-clause-goes
returns-in-Ok-clause-goes g c =
    came_slot c.args.name c.args.token c.args.file c.args.slot c.in_ok-preserved.preserved c.reply_of.result c.in-Ok.reply _ _ _ _ _ _ c.reply_of.ensures c.in-Ok.ensures.told c.in_ok-preserved.ensures.told c.in_ok-preserved.ensures.goes c.in-Ok.ensures.goes

pub returns-in-Err-clause-stopped : goal.returns-in-Err-clause-stopped
returns-in-Err-clause-stopped g c =
    subst (λ (s : Stuck). SticksAfter (AreRest (preserve_acts c.args.name c.args.token c.args.file) (slot_found c.args.name c.args.slot)) s c.args.at.now c.end_told.new.at (g.R.Reach.shown c.args.reach.now) (g.R.Reach.shown c.end_told.new.reach)) (sym c.empty_handed.ensures.stuck)
    (nested.sticks_next (preserve_deeds c.args.slot c.args.name c.args.token c.args.file c.in_ok-preserved.preserved) (end_with (reply_to c.in_ok-preserved.preserved) ∷ [])
    (came_whole c.args.name c.args.token c.args.file c.args.slot c.in_ok-preserved.preserved c.in_ok-preserved.ensures.told) _ _ _ _ _ _ _ c.in_ok-preserved.ensures.goes c.in-Err.ensures.same_at c.in-Err.ensures.sticks)
