-- What `memchr` finds is what `position` gives.
use Rattle.std.proofs.Common.{◌≡◌, ℕ, ◌<◌, ◌≤◌, ◌⊎◌, inl, inr, Bool, true, false, List, length, get_or, Option, Some, None, refl, ap, arith, position}
use Rattle.std.proofs.lemmas.Bool.{cases_order}
use Rattle.std.proofs.lemmas.List.Quantifiers.{position-Some}
use Rattle.memchr.specs.Find.{IsFirstByte, Passes, NoneBefore}
use Rattle.script_text.proofs.Cuts.{none_passes}

clash : (b : Bool) → b ≡ true → b ≡ false → ⊥
clash true h k = absurd cc
clash false h k = absurd cc

-- two first places of bytes that pass are one
one_place : (test : ℕ → Bool) (hay : List ℕ) (i k : ℕ) → test (get_or hay i 0) ≡ true → ((j : ℕ) → j < i → test (get_or hay j 0) ≡ false) → NoneBefore (Passes test hay) 0 (length hay) k
    → Passes test hay k → (k ≡ i) ⊎ ((k < i) ⊎ (i < k)) → k ≡ i
one_place test hay i k here below first passes (inl same) = same
one_place test hay i k here below first passes (inr (inl less)) = absurd (clash _ passes (below k less))
one_place test hay i k here below first passes (inr (inr more)) = absurd (first.before i (omega arith) more here)

pub first_is : (test : ℕ → Bool) (hay : List ℕ) (p r : Option ℕ) → position test hay ≡ p → IsFirstByte test hay r → r ≡ p
first_is test hay None None at first = refl
first_is test hay None (Some k) at first = absurd (clash _ first.1 (none_passes test hay at k 0 first.0.high))
first_is test hay (Some i) None at first = let found = position-Some test hay i 0 at in absurd (first i (omega arith) found.0 found.1)
first_is test hay (Some i) (Some k) at first =
    let found = position-Some test hay i 0 at in
    ap Some (one_place test hay i k found.1 found.2 first.0 first.1 (cases_order k i))
