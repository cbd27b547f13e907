-- A name that a zero ends.
use Rattle.std.proofs.Common.{◌≡◌, ℕ, suc, ◌+◌, true, false, cond, ltb, eqb, List, [], ◌∷◌, length, take, Option, Some, None, refl, ap, ◌∙◌, arith, inl, inr}
use Rattle.std.specs.Prelude.{not}
use Rattle.std.specs.List.{position_or_len}
use Rattle.std.proofs.lemmas.Bool.{cases_lt, lt-ltb, le-ltb}
use Rattle.fdt_blob.specs.Reading.{◌>>=◌, before_zero}

-- the first bytes, if there is one more
abbrev by_place : ℕ → List ℕ → Option (List ℕ)
by_place n xs = cond (ltb n (length xs)) (Some (take n xs)) None

by_place-cons : (n x : ℕ) (xs : List ℕ) → (by_place n xs >>= λ text. Some (x ∷ text)) ≡ by_place (1 + n) (x ∷ xs)
by_place-cons n x xs = elim (cases_lt n (length xs)) [
  | inl lt ↦ let more : 1 + n ≡ suc n = omega arith in rw (lt-ltb _ _ lt, lt-ltb (1 + n) (suc (length xs)) (omega arith), more) refl
  | inr le ↦ rw (le-ltb _ _ le, le-ltb (1 + n) (suc (length xs)) (omega arith)) refl
]

-- a name stands before the place of the first zero
pub before_zero_by_place : (xs : List ℕ) → before_zero xs ≡ cond (ltb (position_or_len (λ b. eqb b 0) xs) (length xs)) (Some (take (position_or_len (λ b. eqb b 0) xs) xs)) None
before_zero_by_place [] = refl
before_zero_by_place (x ∷ xs) =
    let n = position_or_len (λ b. eqb b 0) xs in
    elim (eqb x 0) as (λ b. cond b (Some []) (before_zero xs >>= λ text. Some (x ∷ text)) ≡ by_place (cond (not b) (1 + n) 0) (x ∷ xs)) [
      | true ↦ rw (lt-ltb 0 (suc (length xs)) (omega arith)) refl
      | false ↦ ap (λ (o : Option (List ℕ)). o >>= λ text. Some (x ∷ text)) (before_zero_by_place xs) ∙ by_place-cons n x xs
    ]
