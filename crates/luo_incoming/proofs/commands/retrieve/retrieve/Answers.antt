use Rattle.ho_events.specs.declared.command.Command.TheVariants as command
use Rattle.ho_world.specs.Sequences.{Labels, RetrieveCame}
use Rattle.ho_world.specs.Sequences.Sessions.{retrieve_acts}
use Rattle.std.proofs.Common.{refl, sym, subst}
use Rattle.machine_core.specs.Commands.{Halts}
use Rattle.luo_calls.proofs.Sticking.{halts_by}
use Rattle.luo_incoming.proofs.commands.retrieve.retrieve.Goals as goal

pub returns-in-Err-clause-halts : goal.returns-in-Err-clause-halts
returns-in-Err-clause-halts g c =
    subst (λ (labels : Labels). Halts c.args.labels.now.bound labels (command.Retrieve c.args.name c.args.token c.args.label) c.release.result c.args.at.now c.retrieve_turns.new.at (g.R.Reach.shown c.args.reach.now) (g.R.Reach.shown c.release.new.reach)) (sym c.in-Err.ensures.kept)
    (halts_by (retrieve_acts c.args.name c.args.token) RetrieveCame c.args.labels.now.bound (command.Retrieve c.args.name c.args.token c.args.label) (λ x. refl) _ _ _ _ _ _ _ c.in-Err.ensures.sticks c.release.ensures.halt c.release.ensures.released)
