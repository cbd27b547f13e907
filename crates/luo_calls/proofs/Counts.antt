-- How many numbers are left of some, and how many there are below one.
use Rattle.std.proofs.Common.{◌≡◌, ℕ, ◌+◌, ◌≤◌, Bool, true, false, List, [], ◌∷◌, ◌++◌, length, filter, cond, arith, refl, zero, suc}
use Rattle.std.proofs.lemmas.List.{length-append}
use Rattle.ho_events.specs.Lists.{upto}

pub filtered : (p : ℕ → Bool) (xs : List ℕ) → length (filter p xs) ≤ length xs
filtered p [] = omega arith
filtered p (x ∷ xs) = go (p x) (filtered p xs)
  where
    go : (b : Bool) → length (filter p xs) ≤ length xs → length (cond b (x ∷ filter p xs) (filter p xs)) ≤ length (x ∷ xs)
    go true less = omega (arith, less)
    go false less = omega (arith, less)

pub long_upto : (n : ℕ) → length (upto n) ≡ n
unfolding upto
long_upto zero = refl
long_upto (suc n) = let more : length (upto n ++ n ∷ []) ≡ length (upto n) + 1 = length-append (upto n) (n ∷ []) in let so : length (upto n) ≡ n = long_upto n in omega (arith, more, so)
