use Rattle.std.proofs.Common.{[], ◌∷◌, ◌++◌, sym, subst}
use Rattle.ho_events.specs.declared.command.Command.TheVariants as command
use Rattle.ho_events.specs.declared.reply.Reply.TheVariants.{BadFd, NoSession}
use Rattle.ho_world.specs.Logs.{end_with}
use Rattle.ho_world.specs.Sequences.{command_acts}
use Rattle.luo_calls.specs.Doing.{AreWhole, SticksAfter}
use Rattle.luo_calls.specs.declared.stuck.Stuck.{Stuck}
use Rattle.luo_calls.proofs.Chains.{ready_after}
use Rattle.luo_calls.proofs.Nested as nested
use Rattle.luo_calls.proofs.Preserves as preserves
use Rattle.luo_calls.proofs.commands.preserve.preserve_turns.Goals as goal

pub returns-in-OkSlot-clause-comes : goal.returns-in-OkSlot-clause-comes
returns-in-OkSlot-clause-comes g c =
    preserves.came_if c.args.labels.now.bound c.args.name c.args.token c.args.label _ _ _ _ _ _ c.in-Some.file (sym c.in-Some.ensures.found) c.in-OkSlot.slot c.preserve_slot.result
    (preserves.replied _ _ _ _ _ _ _ _ _ c.in-OkSlot.is c.in-Ok-find_out.ensures.goes) c.preserve_slot.ensures.goes

pub returns-in-OkSlot-clause-stopped : goal.returns-in-OkSlot-clause-stopped
returns-in-OkSlot-clause-stopped g c =
    preserves.stops_if c.args.labels.now.bound c.args.name c.args.token c.args.label _ _ _ _ _ _ c.in-Some.file (sym c.in-Some.ensures.found) c.in-OkSlot.slot c.preserve_slot.result
    (preserves.replied _ _ _ _ _ _ _ _ _ c.in-OkSlot.is c.in-Ok-find_out.ensures.goes) c.preserve_slot.ensures.stopped

pub preserve_slot-requires-clause-ready : goal.preserve_slot-requires-clause-ready
preserve_slot-requires-clause-ready g c = ready_after _ _ _ _ _ c.requires.ready c.in-Ok-find_out.ensures.goes

pub returns-in-Ok-clause-comes : goal.returns-in-Ok-clause-comes
returns-in-Ok-clause-comes g c = preserves.no_file c.args.labels.now.bound c.args.name c.args.token c.args.label _ _ _ _ (sym c.in_default.ensures.found) c.in-Ok.ensures.goes

pub returns-in-Err-clause-stopped : goal.returns-in-Err-clause-stopped
returns-in-Err-clause-stopped g c =
    subst (λ (s : Stuck). SticksAfter (AreWhole (command_acts c.args.labels.now.bound (command.Preserve c.args.name c.args.token c.args.label))) s c.args.at.now c.end_command.new.at (g.R.Reach.shown c.args.reach.now) (g.R.Reach.shown c.end_command.new.reach)) (sym c.empty_handed.ensures.stuck)
    (nested.sticks_first (end_with BadFd ∷ []) (preserves.no_file_whole c.args.labels.now.bound c.args.name c.args.token c.args.label (sym c.in_default.ensures.found)) _ _ _ _ _ c.in-Err.ensures.same_at c.in-Err.ensures.sticks)

pub returns-in-Err-find_out-clause-stopped : goal.returns-in-Err-find_out-clause-stopped
returns-in-Err-find_out-clause-stopped g c =
    subst (λ (s : Stuck). SticksAfter (AreWhole (command_acts c.args.labels.now.bound (command.Preserve c.args.name c.args.token c.args.label))) s c.args.at.now c.find_out.new.at (g.R.Reach.shown c.args.reach.now) (g.R.Reach.shown c.find_out.new.reach)) (sym c.empty_handed-in-Err-find_out.ensures.stuck)
    (nested.sticks_first (preserves.no_slot c.args.name ++ end_with NoSession ∷ []) (preserves.of_file c.args.labels.now.bound c.args.name c.args.token c.args.label c.in-Some.file (sym c.in-Some.ensures.found) _ (preserves.no_name_whole c.args.name c.args.token c.in-Some.file)) _ _ _ _ _ c.in-Err-find_out.ensures.same_at c.in-Err-find_out.ensures.sticks)

pub end_command-requires-in-NoSession : goal.end_command-requires-in-NoSession
end_command-requires-in-NoSession g c = record { ready = ready_after _ _ _ _ _ c.requires.ready c.in-Ok-find_out.ensures.goes }

pub returns-in-Ok-end_command-clause-comes : goal.returns-in-Ok-end_command-clause-comes
returns-in-Ok-end_command-clause-comes g c =
    preserves.no_name c.args.labels.now.bound c.args.name c.args.token c.args.label _ _ _ _ _ _ c.in-Some.file (sym c.in-Some.ensures.found)
    (preserves.replied _ _ _ _ _ _ _ _ _ c.in-NoSession.is c.in-Ok-find_out.ensures.goes) c.in-Ok-end_command.ensures.goes

pub returns-in-Err-end_command-clause-stopped : goal.returns-in-Err-end_command-clause-stopped
returns-in-Err-end_command-clause-stopped g c =
    rw c.empty_handed-in-Err-end_command.ensures.stuck
    (nested.sticks_next (preserves.no_slot c.args.name) (end_with NoSession ∷ []) (preserves.of_file c.args.labels.now.bound c.args.name c.args.token c.args.label c.in-Some.file (sym c.in-Some.ensures.found) _ (preserves.no_name_whole c.args.name c.args.token c.in-Some.file)) _ _ _ _ _ _ _
    (preserves.replied _ _ _ _ _ _ _ _ _ c.in-NoSession.is c.in-Ok-find_out.ensures.goes) c.in-Err-end_command.ensures.same_at c.in-Err-end_command.ensures.sticks)
