use Rattle.ho_world.specs.Sequences.Parts.{finish_acts}
use Rattle.ho_world.specs.Sequences.{FinishCame}
use Rattle.ho_events.specs.declared.command.Command.TheVariants as command
use Rattle.std.proofs.Common.{refl}
use Rattle.luo_calls.proofs.Sticking.{halts_by}
use Rattle.luo_incoming.proofs.commands.finish.finish.Goals as goal

pub returns-in-Err-clause-halts : goal.returns-in-Err-clause-halts
returns-in-Err-clause-halts g c labels =
    halts_by (finish_acts c.args.name) FinishCame labels (command.Finish c.args.name) (λ x. refl) _ _ _ _ _ _ _ c.in-Err.ensures.stopped c.release.ensures.halt c.release.ensures.released
