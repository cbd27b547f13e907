use Rattle.std.proofs.Common.{sym, subst}
use Rattle.ho_events.specs.declared.command.Command.TheVariants as command
use Rattle.ho_world.specs.Sequences.{Labels}
use Rattle.machine_core.specs.Commands.{Halts}
use Rattle.luo_calls.proofs.Sticking.{halts_after}
use Rattle.luo_calls.proofs.commands.close_fd.close_fd.Goals as goal

pub returns-in-Err-clause-halts : goal.returns-in-Err-clause-halts
returns-in-Err-clause-halts g c =
    subst (λ (labels : Labels). Halts c.args.labels.now.bound labels (command.CloseFd c.args.label) c.release.result c.args.at.now c.close_fd_turns.new.at (g.R.Reach.shown c.args.reach.now) (g.R.Reach.shown c.release.new.reach)) (sym c.in-Err.ensures.kept)
    (halts_after c.args.labels.now.bound (command.CloseFd c.args.label) _ _ _ _ _ _ _ c.in-Err.ensures.stopped c.release.ensures.halt c.release.ensures.released)
