-- The agents of a run.
use Rattle.std.specs.Prelude.{ℕ, ◌<◌, length}
use Rattle.turns_table.specs.Tables.{opening, IsOf}
use Rattle.turns_table.specs.Passes.{IsIdle}
use Rattle.turns_table.specs.declared.turns.Turns.{Turns}
use Rattle.turns_bench.specs.declared.tally.Tally.{Tally}
use Rattle.turns_bench.specs.declared.agent.Agent.{Agent}

-- the agent can take turns with its object, and is in none
abbrev pub IsReady : Turns Tally ℕ → Agent → Type 0
IsReady t a = IsOf t a.pass × IsIdle a.pass a.number.0 × (a.object.0 < length (opening t))
