use Rattle.std.proofs.Common.{◌≡◌, ℕ, ◌<◌, [], length}
use Rattle.std.specs.Vec.{vec_capacity}
use Rattle.turns_table.specs.Kept.{items_at, has_at}
use Rattle.turns_table.proofs.logs.Logs.empty.Given as goal

abbrev pub invariant-loop : goal.invariant-loop
invariant-loop l = record {
  rows : length l.logs.items ≡ l.counter;
  flags : length l.flags.items ≡ l.counter;
  room : (vec_capacity l.logs ≡ 256) × (vec_capacity l.flags ≡ 256);
  bare : (a : ℕ) → items_at l.logs.items a ≡ [];
  set_to : (a : ℕ) → a < l.counter → has_at l.flags.items a ≡ l.has;
}
