use Rattle.std.proofs.Common.{[], ◌∷◌, refl, sym, subst}
use Rattle.ho_base.specs.Objects.{file_no}
use Rattle.ho_events.specs.declared.command.Command.TheVariants as command
use Rattle.ho_events.specs.declared.event.Event.TheVariants.{FileTruncate}
use Rattle.ho_events.specs.declared.reply.Reply.TheVariants.{BadFd}
use Rattle.ho_world.specs.Logs.{deed_at, end_with}
use Rattle.ho_world.specs.Sequences.{command_acts}
use Rattle.luo_calls.specs.Doing.{AreWhole, SticksAfter}
use Rattle.luo_calls.specs.Truncates.{truncate_read}
use Rattle.luo_calls.specs.declared.stuck.Stuck.{Stuck}
use Rattle.luo_calls.proofs.Chains.{ready_after}
use Rattle.luo_calls.proofs.Nested as nested
use Rattle.luo_calls.proofs.Sticking.{sticks_as}
use Rattle.luo_calls.proofs.Truncates as truncates
use Rattle.luo_calls.proofs.commands.truncate.truncate_turns.Goals as goal

pub returns-in-Ok-clause-comes : goal.returns-in-Ok-clause-comes
returns-in-Ok-clause-comes g c = truncates.no_file c.args.labels.now.bound c.args.label c.args.size c.in_default.ensures.found _ _ _ _ c.in-Ok.ensures.goes

pub returns-in-Err-clause-stopped : goal.returns-in-Err-clause-stopped
returns-in-Err-clause-stopped g c =
    subst (λ (s : Stuck). SticksAfter (AreWhole (command_acts c.args.labels.now.bound (command.Truncate c.args.label c.args.size))) s c.args.at.now c.end_command.new.at (g.R.Reach.shown c.args.reach.now) (g.R.Reach.shown c.end_command.new.reach)) (sym c.empty_handed.ensures.stuck)
    (nested.sticks_first (end_with BadFd ∷ []) (truncates.no_file_whole c.args.labels.now.bound c.args.label c.args.size c.in_default.ensures.found) _ _ _ _ _ c.in-Err.ensures.same_at c.in-Err.ensures.sticks)

pub end_truncate-requires-clause-ready : goal.end_truncate-requires-clause-ready
end_truncate-requires-clause-ready g c = ready_after _ _ _ _ _ c.requires.ready c.in-Ok-truncate_file.ensures.goes

pub returns-in-Ok-truncate_file-clause-comes : goal.returns-in-Ok-truncate_file-clause-comes
returns-in-Ok-truncate_file-clause-comes g c =
    truncates.ended c.args.labels.now.bound c.args.label c.args.size c.in-Some.file c.in-Some.ensures.found c.in-Ok-truncate_file.order c.in-Ok-truncate_file.reply _ _ _ _ _ _ c.end_truncate.result c.in-Ok-truncate_file.ensures.reply c.end_truncate.ensures.answer c.in-Ok-truncate_file.ensures.goes c.end_truncate.ensures.goes

pub returns-in-Ok-truncate_file-clause-stopped : goal.returns-in-Ok-truncate_file-clause-stopped
returns-in-Ok-truncate_file-clause-stopped g c =
    truncates.stops c.args.labels.now.bound c.args.label c.args.size c.in-Some.file c.in-Some.ensures.found c.in-Ok-truncate_file.order c.in-Ok-truncate_file.reply _ _ _ _ _ _ c.end_truncate.result c.in-Ok-truncate_file.ensures.reply c.in-Ok-truncate_file.ensures.goes c.end_truncate.ensures.stopped

pub returns-in-Err-truncate_file-clause-stopped : goal.returns-in-Err-truncate_file-clause-stopped
returns-in-Err-truncate_file-clause-stopped g c =
    subst (λ (s : Stuck). SticksAfter (AreWhole (command_acts c.args.labels.now.bound (command.Truncate c.args.label c.args.size))) s c.args.at.now c.truncate_file.new.at (g.R.Reach.shown c.args.reach.now) (g.R.Reach.shown c.truncate_file.new.reach)) (sym c.empty_handed-in-Err-truncate_file.ensures.stuck)
    (sticks_as (truncates.of_file c.args.labels.now.bound c.args.label c.args.size c.in-Some.file c.in-Some.ensures.found) _ _ _ _ _ c.in-Err-truncate_file.ensures.sticks)
