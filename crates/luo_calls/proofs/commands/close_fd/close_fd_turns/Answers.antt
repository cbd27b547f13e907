use Rattle.std.proofs.Common.{[], ◌∷◌, refl, sym, subst}
use Rattle.std.proofs.lemmas.Result.{err_from_is_err_and}
use Rattle.ho_events.specs.declared.command.Command.TheVariants as command
use Rattle.ho_events.specs.declared.reply.Reply.TheVariants.{BadFd}
use Rattle.ho_world.specs.Logs.{end_with}
use Rattle.ho_world.specs.Sequences.{command_acts}
use Rattle.luo_calls.specs.declared.stuck.Stuck.{Stuck}
use Rattle.luo_calls.specs.Doing.{AreWhole, SticksAfter}
use Rattle.luo_calls.proofs.CloseFds as closes
use Rattle.luo_calls.proofs.Nested as nested
use Rattle.luo_calls.proofs.Sticking.{sticks_as}
use Rattle.luo_calls.proofs.commands.close_fd.close_fd_turns.Goals as goal

pub returns-in-Ok-clause-comes : goal.returns-in-Ok-clause-comes
returns-in-Ok-clause-comes g c =
    closes.no_file c.args.labels.now.bound c.args.labels.now.bound c.args.label _ _ _ _ refl c.in_default.ensures.found c.in-Ok.ensures.goes

pub returns-in-Err-clause-stopped : goal.returns-in-Err-clause-stopped
returns-in-Err-clause-stopped g c =
    subst (λ (s : Stuck). SticksAfter (AreWhole (command_acts c.args.labels.now.bound (command.CloseFd c.args.label))) s c.args.at.now c.end_command.new.at (g.R.Reach.shown c.args.reach.now) (g.R.Reach.shown c.end_command.new.reach)) (sym c.empty_handed.ensures.stuck)
    (nested.sticks_first (end_with BadFd ∷ []) (closes.no_file_whole c.args.labels.now.bound c.args.label c.in_default.ensures.found) _ _ _ _ _ c.in-Err.ensures.same_at c.in-Err.ensures.sticks)

pub returns-clause-comes : goal.returns-clause-comes
returns-clause-comes g c =
    closes.ended c.args.labels.now.bound c.unbind.new.self.bound c.args.label _ _ _ _ c.in-Some.file c.unbind.ensures.bound c.in-Some.ensures.found c.in_ok-close_label.ensures.closes

pub returns-in_err-close_label-clause-stopped : goal.returns-in_err-close_label-clause-stopped
returns-in_err-close_label-clause-stopped g c =
    let p = err_from_is_err_and c.from_residual.result c.from_residual.ensures.1 in rw (p.1, p.2)
    (sticks_as (closes.of_file c.args.labels.now.bound c.args.label c.in-Some.file c.in-Some.ensures.found) _ _ _ _ _ c.in_err-close_label.ensures.stopped)
