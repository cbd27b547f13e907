-- Flags of numbers in use: one that is set or cleared, and the first that is free from a bound on.
use Rattle.std.proofs.Common.{◌≡◌, ℕ, ◌+◌, ◌<◌, ◌==◌, Bool, true, false, cond, not, List, length, slice_index_or, slice_set, ap, sym, arith}
use Rattle.std.proofs.lemmas.Grind.{common_steps}
use Rattle.std.proofs.lemmas.Bool.Decides.{nat_tests}
use Rattle.registry_core.proofs.FirstOf.{first_at, first_none}
use Rattle.registry_core.specs.UsedNumbers.{least_free, AreUsedBelow}
use Rattle.std.specs.Prelude.{None, Some}

-- a flag set or cleared
pub flag_at : (used : List Bool) (f q : ℕ) (v : Bool) → f < length used → slice_index_or (slice_set used f v) q false ≡ cond (f == q) v (slice_index_or used q false)
flag_at used f q v h = grind (arith, common_steps, nat_tests)

-- the first that is free behind a bound
pub least_at : (used : List Bool) (n : ℕ) → n < length used → slice_index_or used n false ≡ false → AreUsedBelow n used → Some n ≡ least_free used
least_at used n below free all = sym (first_at (λ k. not (slice_index_or used k false)) (length used) n below (ap not free) (λ k h. ap not (all k h)))

pub least_none : (used : List Bool) → AreUsedBelow (length used) used → None ≡ least_free used
least_none used all = sym (first_none (λ k. not (slice_index_or used k false)) (length used) (λ k h. ap not (all k h)))

-- one more flag below a bound
pub used_more : (used : List Bool) (n : ℕ) → slice_index_or used n false ≡ true → AreUsedBelow n used → AreUsedBelow (n + 1) used
used_more used n at all k h = grind (arith, at, all k)
