use Rattle.luo_calls.proofs.Ends as ends
use Rattle.luo_calls.proofs.turns.done.end_command.Goals as goal

pub returns-clause-goes : goal.returns-clause-goes
returns-clause-goes g c = ends.goes_own _ _ _ c.room.ensures.kept _ _ c.if-at-ge-LATE.false c.own.ensures
