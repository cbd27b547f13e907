use Rattle.turns_table.specs.Tables.{IsOf}
use Rattle.turns_table.specs.Passes.{IsIdle}
use Rattle.turn_tests.proofs.turns.work.Given as goal

abbrev pub invariant-loop-i : goal.invariant-loop-i
invariant-loop-i g l = IsOf l.turns l.pass × IsIdle l.pass l.agent.0
