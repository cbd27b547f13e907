use Rattle.ho_world.specs.Sequences.Files.{memfd_acts}
use Rattle.ho_events.specs.declared.command.Command.TheVariants as command
use Rattle.std.proofs.Common.{refl, sym, subst}
use Rattle.ho_world.specs.Sequences.{Labels, MemfdCame}
use Rattle.machine_core.specs.Commands.{Halts}
use Rattle.luo_calls.proofs.Sticking.{can_release_after, halts_by}
use Rattle.luo_calls.proofs.commands.memfd.memfd.Goals as goal

pub returns-in-Err-clause-halts : goal.returns-in-Err-clause-halts
returns-in-Err-clause-halts g c =
    subst (λ (labels : Labels). Halts c.args.labels.now.bound labels (command.Memfd c.args.label c.args.order) c.release.result c.args.at.now c.memfd_turns.new.at (g.R.Reach.shown c.args.reach.now) (g.R.Reach.shown c.release.new.reach)) (sym c.in-Err.ensures.kept)
    (halts_by (memfd_acts c.args.order) MemfdCame c.args.labels.now.bound (command.Memfd c.args.label c.args.order) (λ x. refl) _ _ _ _ _ _ _ c.in-Err.ensures.sticks c.release.ensures.halt c.release.ensures.released)
