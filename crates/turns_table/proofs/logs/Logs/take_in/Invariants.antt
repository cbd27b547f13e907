use Rattle.std.proofs.Common.{◌≡◌, ℕ, ◌<◌, ◌≤◌, true, cond, length}
use Rattle.turns_table.specs.Views.{agents}
use Rattle.turns_table.specs.Kept.{items_at, has_at}
use Rattle.turns_table.proofs.logs.Logs.take_in.Given as goal

abbrev pub invariant-loop-log : goal.invariant-loop-log
invariant-loop-log l = record {
  few : length l.logs.items ≤ agents;
  rest : (a : ℕ) → a < length l.logs.items → items_at l.logs.items a ≡ items_at l.initial.logs.items a;
  before : (a : ℕ) → a < length l.logs.items → (items_at l.self.logs.items a ≡ items_at l.initial.self.logs.items a) × (has_at l.self.has.items a ≡ has_at l.initial.self.has.items a);
  after : (a : ℕ) → length l.logs.items ≤ a → items_at l.self.logs.items a ≡ cond (has_at l.initial.self.has.items a) (items_at l.initial.self.logs.items a) (items_at l.initial.logs.items a);
  flags : (a : ℕ) → length l.logs.items ≤ a → has_at l.self.has.items a ≡ cond (has_at l.initial.self.has.items a) true (has_at l.has.items a);
  number : l.self.number ≡ l.initial.self.number;
}

abbrev pub decreases-loop-log : goal.decreases-loop-log
decreases-loop-log l = length l.logs.items
