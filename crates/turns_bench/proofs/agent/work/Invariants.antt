use Rattle.turns_bench.specs.Agents.{IsReady}
use Rattle.turns_bench.proofs.agent.work.Given as goal

abbrev pub invariant-loop : goal.invariant-loop
invariant-loop g l = IsReady l.turns l.agent
