use Rattle.ho_events.specs.declared.command.Command.TheVariants as command
use Rattle.luo_calls.proofs.Sticking.{halts_after}
use Rattle.luo_calls.proofs.commands.preserve.preserve.Goals as goal

pub returns-in-Err-clause-halts : goal.returns-in-Err-clause-halts
returns-in-Err-clause-halts g c =
    halts_after c.args.labels.now.bound (command.Preserve c.args.name c.args.token c.args.label) _ _ _ _ _ _ _ c.in-Err.ensures.stopped c.release.ensures.halt c.release.ensures.released
