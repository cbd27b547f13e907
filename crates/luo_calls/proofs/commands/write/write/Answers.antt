use Rattle.luo_calls.specs.Puts.{put_command}
use Rattle.luo_calls.proofs.Sticking.{halts_after}
use Rattle.luo_calls.proofs.commands.write.write.Goals as goal

pub returns-in-Err-clause-halts : goal.returns-in-Err-clause-halts
returns-in-Err-clause-halts g c =
    halts_after c.args.labels.now.bound (put_command c.args.label c.args.off c.args.put) _ _ _ _ _ _ _ c.in-Err.ensures.stopped c.release.ensures.halt c.release.ensures.released
