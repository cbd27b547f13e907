-- Intervals of frames that are apart: one at most holds a frame.
use Rattle.std.proofs.Common.{◌≡◌, ℕ, ◌≤◌, ◌<◌, Bool, true, false, cond, List, [], ◌∷◌, length, refl, sym, ap, ◌∙◌, arith}
use Rattle.std.specs.Prelude.{nat_lt, nat_le, ◌&&◌, ◌||◌}
use Rattle.std.specs.List.{filter, list_all}
use Rattle.std.proofs.lemmas.Bool.{ltb-true, leb-true, le-ltb, lt-leb, and_parts, and_left, and_right}

module _ {A : Type 0} (low high : A → ℕ) where
  abbrev pub held : ℕ → A → Bool
  held p x = nat_le (low x) p && nat_lt p (high x)

  -- an interval lies before or behind another
  abbrev pub beside : ℕ → ℕ → A → Bool
  beside from to x = nat_le to (low x) || nat_le (high x) from

  abbrev pub all_beside : List A → Bool
  all_beside [] = true
  all_beside (x ∷ xs) = list_all (beside (low x) (high x)) xs && all_beside xs

  past_low : (p : ℕ) (x : A) → p < low x → held p x ≡ false
  past_low p x lt = and_left (nat_le (low x) p) (nat_lt p (high x)) (lt-leb (low x) p lt)

  past_high : (p : ℕ) (x : A) → high x ≤ p → held p x ≡ false
  past_high p x le = and_right (nat_le (low x) p) (nat_lt p (high x)) (le-ltb p (high x) le)

  pub within : (p : ℕ) (x : A) → held p x ≡ true → (low x ≤ p) × (p < high x)
  within p x h = let hs = and_parts (nat_le (low x) p) (nat_lt p (high x)) h in (leb-true (low x) p hs.0, ltb-true p (high x) hs.1)

  -- one that lies beside an interval with a frame doesn't hold it
  not_held : (p from to : ℕ) (x : A) → from ≤ p → p < to → beside from to x ≡ true → held p x ≡ false
  not_held p from to x lo hi h = at_test (nat_le to (low x)) refl
    where
      at_test : (b : Bool) → nat_le to (low x) ≡ b → held p x ≡ false
      at_test true e = let le : to ≤ low x = leb-true to (low x) e in past_low p x (omega (arith, hi, le))
      at_test false e =
          let other : nat_le (high x) from ≡ true = ap (λ (b : Bool). b || nat_le (high x) from) (sym e) ∙ h in
          let le : high x ≤ from = leb-true (high x) from other in
          past_high p x (omega (arith, lo, le))

  pub none_held : (p from to : ℕ) (xs : List A) → from ≤ p → p < to → list_all (beside from to) xs ≡ true → filter (held p) xs ≡ []
  none_held p from to [] lo hi h = refl
  none_held p from to (x ∷ xs) lo hi h =
      let hs = and_parts (beside from to x) (list_all (beside from to) xs) h in
      ap (λ (b : Bool). cond b (x ∷ filter (held p) xs) (filter (held p) xs)) (not_held p from to x lo hi hs.0) ∙ none_held p from to xs lo hi hs.1

  pub one_held : (p : ℕ) (xs : List A) → all_beside xs ≡ true → length (filter (held p) xs) ≤ 1
  one_held p [] h = omega arith
  one_held p (x ∷ xs) h =
      let hs = and_parts (list_all (beside (low x) (high x)) xs) (all_beside xs) h in at_test (held p x) refl hs.0 (one_held p xs hs.1)
    where
      at_test : (b : Bool) → held p x ≡ b → list_all (beside (low x) (high x)) xs ≡ true → length (filter (held p) xs) ≤ 1 → length (filter (held p) (x ∷ xs)) ≤ 1
      at_test true e others rest =
          let w = within p x e in
          let none : length (filter (held p) xs) ≡ 0 = ap length (none_held p (low x) (high x) xs w.0 w.1 others) in
          let here : length (filter (held p) (x ∷ xs)) ≡ length (x ∷ filter (held p) xs) =
          ap (λ (b : Bool). length (cond b (x ∷ filter (held p) xs) (filter (held p) xs))) e in
          omega (arith, none, here)
      at_test false e others rest =
          let skip : length (filter (held p) (x ∷ xs)) ≡ length (filter (held p) xs) =
          ap (λ (b : Bool). length (cond b (x ∷ filter (held p) xs) (filter (held p) xs))) e in
          omega (arith, skip, rest)

  -- frame 0 is in none that begins behind it
  pub zero_held : (xs : List A) → list_all (λ x. nat_lt 0 (low x)) xs ≡ true → filter (held 0) xs ≡ []
  zero_held [] h = refl
  zero_held (x ∷ xs) h =
      let hs = and_parts (nat_lt 0 (low x)) (list_all (λ x. nat_lt 0 (low x)) xs) h in
      ap (λ (b : Bool). cond b (x ∷ filter (held 0) xs) (filter (held 0) xs)) (past_low 0 x (ltb-true 0 (low x) hs.0)) ∙ zero_held xs hs.1
