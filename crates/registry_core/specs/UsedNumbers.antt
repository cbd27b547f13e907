-- Flags of the numbers that are in use.
use Rattle.std.specs.Prelude.{◌≡◌, ℕ, ◌-◌, ◌<◌, Bool, true, false, not, List, ◌++◌, length, replicate, slice_index_or}
use Rattle.std.specs.Prelude.{Option}
use Rattle.std.specs.List.{find}
use Rattle.ho_events.specs.Lists.{upto}

-- the least number that isn't in use
abbrev pub least_free : List Bool → Option ℕ
least_free used = find (λ k. not (slice_index_or used k false)) (upto (length used))

-- as many numbers, of which the first ones are in use
abbrev pub used_first : ℕ → ℕ → List Bool
used_first used count = replicate used true ++ replicate (count - used) false

-- each number below a bound is in use
abbrev pub AreUsedBelow : ℕ → List Bool → Type 0
AreUsedBelow bound used = (k : ℕ) → k < bound → slice_index_or used k false ≡ true
