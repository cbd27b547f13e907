use Rattle.std.proofs.Common.{◌≡◌, ℕ, ◌<◌, false}
use Rattle.turns_table.specs.Kept.{has_at}
use Rattle.turns_table.proofs.logs.Logs.first.Given as goal

-- no number so far is the pass's
abbrev pub invariant-loop-agent : goal.invariant-loop-agent
invariant-loop-agent l = (a : ℕ) → a < l.agent → has_at l.self.has.items a ≡ false
