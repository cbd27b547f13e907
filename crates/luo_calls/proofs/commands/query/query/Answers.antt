use Rattle.luo_calls.specs.Queries.{query_command}
use Rattle.luo_calls.proofs.Sticking.{halts_after}
use Rattle.luo_calls.proofs.commands.query.query.Goals as goal

pub returns-in-Err-clause-halts : goal.returns-in-Err-clause-halts
returns-in-Err-clause-halts g c =
    halts_after c.args.labels.now.bound (query_command c.args.label c.args.query) _ _ _ _ _ _ _ c.in-Err.ensures.sticks c.release.ensures.halt c.release.ensures.released
