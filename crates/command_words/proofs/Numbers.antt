-- The values of numbers.
use Rattle.std.proofs.Common.{◌≡◌, ℕ, ◌+◌, ◌-◌, ◌*◌, ◌<◌, ◌≤◌, List, [], ◌∷◌, suc, length, drop, get_or, refl, arith, add-one, drop-cons}
use Rattle.std.proofs.lemmas.Grind.{common_steps}
use Rattle.ho_events.specs.Script.Forms.{with_digits}

digit_first : (n b : ℕ) (digits : List ℕ) → with_digits n (b ∷ digits) ≡ with_digits (n * 10 + (b - 48)) digits
unfolding with_digits
digit_first n b digits = refl

no_digits : (n : ℕ) → with_digits n [] ≡ n
unfolding with_digits
no_digits n = refl

-- a number goes on with its next digit
pub one_digit : (n : ℕ) (digits : List ℕ) (i : ℕ) → i < length digits
    → with_digits n (drop i digits) ≡ with_digits (n * 10 + (get_or digits i 0 - 48)) (drop (i + 1) digits)
one_digit n digits i inside = rw (add-one, drop-cons digits i 0) (digit_first n (get_or digits i 0) (drop (suc i) digits))

-- after the last digit the number is whole
pub digits_end : (n : ℕ) (digits : List ℕ) (i : ℕ) → length digits ≤ i → with_digits n (drop i digits) ≡ n
digits_end n digits i past =
    let nothing : drop i digits ≡ [] = grind (arith, common_steps) in rw (nothing, no_digits) refl

-- more digits make no number less
pub digits_grow : (n : ℕ) (digits : List ℕ) → n ≤ with_digits n digits
digits_grow n [] = rw no_digits (omega arith)
digits_grow n (b ∷ digits) =
    let more = digits_grow (n * 10 + (b - 48)) digits in
    rw digit_first (omega arith)
