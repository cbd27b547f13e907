-- The slots that are out with a seat.
use Rattle.std.specs.Prelude.{◌≡◌, ℕ, ◌+◌, ◌<◌, length, List, [], ◌∷◌, ◌++◌, ◌==◌, cond, slice_index_or, Option, Some, None}
use Rattle.atomic_table.specs.Table.{Me}
use Rattle.turns_table.specs.Views.{numbers, agents}
use Rattle.turns_table.specs.declared.rule.Known.{Known}

-- the pairs of xs, and then those of passed, turned until the slot k is the first
abbrev pub pulled : {S : Type 0} → ℕ → List (ℕ × S) → List (ℕ × S) → List (ℕ × S)
pulled k passed [] = passed
pulled k passed (x ∷ xs) = cond (x.0 == k) (x ∷ xs ++ passed) (pulled k (passed ++ x ∷ []) xs)

-- 1 where there is a value
abbrev pub one_if : {T : Type 0} → Option T → ℕ
one_if None = 0
one_if (Some x) = 1

-- how often the slot k is among them
abbrev pub times : {S : Type 0} → ℕ → List (ℕ × S) → ℕ
times k [] = 0
times k (x ∷ xs) = cond (x.0 == k) 1 0 + times k xs

-- how many of them are full
abbrev pub full : {T : Type 0} → List (ℕ × Option T) → ℕ
full [] = 0
full (x ∷ xs) = one_if x.1 + full xs

-- the seat has out just the slots of what it holds, each once, and they are empty
abbrev pub IsOutFor : {T : Type 0} → List (Option T) → List (ℕ × Option T) → Type 0
IsOutFor {T} held cs = (full cs ≡ 0) × ((k : ℕ) → times k cs ≡ one_if (slice_index_or held k None))

-- what is true of every pass, among n objects
abbrev pub IsSound : {T : Type 0} → ℕ → Me (Option T) (Known T) → Type 0
IsSound n m = IsOutFor m.0.held m.1 × (length m.0.roles ≡ agents) × (length m.0.held ≡ n) × (length m.0.opening ≡ n) × (0 < numbers m.0.roles)
