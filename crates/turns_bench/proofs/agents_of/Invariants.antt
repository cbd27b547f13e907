use Rattle.std.proofs.Common.{◌≡◌, ℕ, ◌<◌, ◌≤◌, All, length}
use Rattle.std.specs.Vec.{vec_capacity}
use Rattle.turns_table.specs.declared.rule.Role.TheVariants.{Spare}
use Rattle.turns_table.specs.Views.{role}
use Rattle.turns_table.specs.Passes.{view}
use Rattle.turns_table.specs.Tables.{IsOf}
use Rattle.turns_bench.specs.Agents.{IsReady}
use Rattle.turns_bench.proofs.agents_of.Given as goal

abbrev pub invariant-loop-number : goal.invariant-loop-number
invariant-loop-number l = IsOf l.turns l.last × ((a : ℕ) → l.number ≤ a → a < 256 → role (view l.last) a ≡ Spare) × All (IsReady l.turns) l.made.items × (length l.made.items ≡ l.number) × (l.agents ≤ vec_capacity l.made)
