use Rattle.ho_world.specs.Sequences.Sessions.{open_acts}
use Rattle.ho_world.specs.Sequences.{OpenCame}
use Rattle.ho_events.specs.declared.command.Command.TheVariants as command
use Rattle.std.proofs.Common.{refl}
use Rattle.luo_calls.proofs.Sticking.{can_release_after, halts_by}
use Rattle.luo_incoming.proofs.commands.open.open.Goals as goal

pub release-requires : goal.release-requires
release-requires g c = can_release_after _ _ _ _ _ c.in-Err.ensures.sticks

pub returns-in-Err-clause-halts : goal.returns-in-Err-clause-halts
returns-in-Err-clause-halts g c labels =
    halts_by (open_acts c.args.name) OpenCame labels (command.Open c.args.name) (λ x. refl) _ _ _ _ _ _ _ c.in-Err.ensures.sticks c.release.ensures.halt c.release.ensures.released
