-- Numbers that stand once each.
use Rattle.std.proofs.Common.{◌≡◌, ℕ, zero, suc, ◌+◌, ◌<◌, ◌≤◌, Bool, true, false, cond, eqb, List, [], ◌∷◌, ◌++◌, length, refl, sym, ap, ◌∙◌, arith, inl, inr}
use Rattle.std.specs.Prelude.{nat_eq, nat_lt, not, ◌||◌}
use Rattle.std.specs.List.{list_all, list_any}
use Rattle.std.proofs.lemmas.Bool.{eqb-true, eqb-false, ne_eqb, cases_lt, ltb-true, lt-ltb, and_parts, and_from, not-true}
use Rattle.record_frames.specs.Rules.{all_apart}

-- none of the numbers is this one
pub absent : (p : ℕ) (xs : List ℕ) → Bool
absent p xs = not (list_any (nat_eq p) xs)

or_false : (x y : Bool) → (x || y) ≡ false → (x ≡ false) × (y ≡ false)
or_false true y h = absurd cc
or_false false y h = (refl, h)

or_from : (x y : Bool) → x ≡ false → y ≡ false → (x || y) ≡ false
or_from true y h g = absurd cc
or_from false y h g = g

turned : (a b : ℕ) → eqb a b ≡ false → eqb b a ≡ false
turned a b h = ne_eqb b a (λ e. eqb-false a b h (sym e))

any_behind : (p : ℕ) (xs ys : List ℕ) → list_any (nat_eq p) (xs ++ ys) ≡ false → (list_any (nat_eq p) xs ≡ false) × (list_any (nat_eq p) ys ≡ false)
any_behind p [] ys h = (refl, h)
any_behind p (x ∷ xs) ys h =
    let hs = or_false (nat_eq p x) (list_any (nat_eq p) (xs ++ ys)) h in
    let r = any_behind p xs ys hs.1 in
    (or_from (nat_eq p x) (list_any (nat_eq p) xs) hs.0 r.0, r.1)

-- a number that stands apart after others isn't among them
pub apart_behind : (xs : List ℕ) (y : ℕ) (ys : List ℕ) → all_apart (xs ++ y ∷ ys) ≡ true → list_any (nat_eq y) xs ≡ false
apart_behind [] y ys h = refl
apart_behind (x ∷ xs) y ys h =
    let hs = and_parts (not (list_any (nat_eq x) (xs ++ y ∷ ys))) (all_apart (xs ++ y ∷ ys)) h in
    let none = any_behind x xs (y ∷ ys) (not-true (list_any (nat_eq x) (xs ++ y ∷ ys)) hs.0) in
    let here = or_false (nat_eq x y) (list_any (nat_eq x) ys) none.1 in
    or_from (nat_eq y x) (list_any (nat_eq y) xs) (turned x y here.0) (apart_behind xs y ys hs.1)

-- the front and the rest stand apart by themselves
pub apart_front : (xs ys : List ℕ) → all_apart (xs ++ ys) ≡ true → all_apart xs ≡ true
apart_front [] ys h = refl
apart_front (x ∷ xs) ys h =
    let hs = and_parts (not (list_any (nat_eq x) (xs ++ ys))) (all_apart (xs ++ ys)) h in
    let none = any_behind x xs ys (not-true (list_any (nat_eq x) (xs ++ ys)) hs.0) in
    and_from (not (list_any (nat_eq x) xs)) (all_apart xs) (ap not none.0) (apart_front xs ys hs.1)

pub apart_rest : (xs ys : List ℕ) → all_apart (xs ++ ys) ≡ true → all_apart ys ≡ true
apart_rest [] ys h = h
apart_rest (x ∷ xs) ys h = apart_rest xs ys (and_parts (not (list_any (nat_eq x) (xs ++ ys))) (all_apart (xs ++ ys)) h).1

-- the numbers other than one
others : ℕ → List ℕ → List ℕ
others p [] = []
others p (x ∷ xs) = cond (nat_eq p x) (others p xs) (x ∷ others p xs)

others_absent : (p q : ℕ) (xs : List ℕ) → list_any (nat_eq q) xs ≡ false → list_any (nat_eq q) (others p xs) ≡ false
unfolding others
others_absent p q [] h = refl
others_absent p q (x ∷ xs) h =
    let hs = or_false (nat_eq q x) (list_any (nat_eq q) xs) h in
    let r = others_absent p q xs hs.1 in
    elim (nat_eq p x) as (λ b. list_any (nat_eq q) (cond b (others p xs) (x ∷ others p xs)) ≡ false) [
      | true ↦ r
      | false ↦ or_from (nat_eq q x) (list_any (nat_eq q) (others p xs)) hs.0 r
    ]

others_apart : (p : ℕ) (xs : List ℕ) → all_apart xs ≡ true → all_apart (others p xs) ≡ true
unfolding others
others_apart p [] h = refl
others_apart p (x ∷ xs) h =
    let hs = and_parts (not (list_any (nat_eq x) xs)) (all_apart xs) h in
    let r = others_apart p xs hs.1 in
    elim (nat_eq p x) as (λ b. all_apart (cond b (others p xs) (x ∷ others p xs)) ≡ true) [
      | true ↦ r
      | false ↦ and_from (not (list_any (nat_eq x) (others p xs))) (all_apart (others p xs)) (ap not (others_absent p x xs (not-true (list_any (nat_eq x) xs) hs.0))) r
    ]

-- one that isn't there leaves all
others_all : (p : ℕ) (xs : List ℕ) → list_any (nat_eq p) xs ≡ false → others p xs ≡ xs
unfolding others
others_all p [] h = refl
others_all p (x ∷ xs) h =
    let hs = or_false (nat_eq p x) (list_any (nat_eq p) xs) h in
    ap (λ (b : Bool). cond b (others p xs) (x ∷ others p xs)) hs.0 ∙ ap (λ (l : List ℕ). x ∷ l) (others_all p xs hs.1)

others_length : (p : ℕ) (xs : List ℕ) → all_apart xs ≡ true → length xs ≤ length (others p xs) + 1
unfolding others
others_length p [] h = omega arith
others_length p (x ∷ xs) h =
    let hs = and_parts (not (list_any (nat_eq x) xs)) (all_apart xs) h in
    let r = others_length p xs hs.1 in
    at_test (nat_eq p x) refl hs.0 r
  where
    at_test : (b : Bool) → nat_eq p x ≡ b → not (list_any (nat_eq x) xs) ≡ true → length xs ≤ length (others p xs) + 1
        → length (x ∷ xs) ≤ length (cond b (others p xs) (x ∷ others p xs)) + 1
    at_test true e n r =
        let same : p ≡ x = eqb-true p x e in
        let gone : others p xs ≡ xs = ap (λ (q : ℕ). others q xs) same ∙ others_all x xs (not-true (list_any (nat_eq x) xs) n) in
        let len : length (others p xs) ≡ length xs = ap length gone in
        omega (arith, len)
    at_test false e n r = omega (arith, r)

below : (n x : ℕ) → x < suc n → eqb n x ≡ false → x < n
below n x h e = elim (cases_lt x n) [ inl l ↦ l | inr g ↦ absurd (eqb-false n x e (omega (arith, h, g))) ]

others_below : (n : ℕ) (xs : List ℕ) → list_all (λ x. nat_lt x (suc n)) xs ≡ true → list_all (λ x. nat_lt x n) (others n xs) ≡ true
unfolding others
others_below n [] h = refl
others_below n (x ∷ xs) h =
    let hs = and_parts (nat_lt x (suc n)) (list_all (λ x. nat_lt x (suc n)) xs) h in
    at_test (nat_eq n x) refl (ltb-true x (suc n) hs.0) (others_below n xs hs.1)
  where
    at_test : (b : Bool) → nat_eq n x ≡ b → x < suc n → list_all (λ x. nat_lt x n) (others n xs) ≡ true → list_all (λ x. nat_lt x n) (cond b (others n xs) (x ∷ others n xs)) ≡ true
    at_test true e h r = r
    at_test false e h r = and_from (nat_lt x n) (list_all (λ x. nat_lt x n) (others n xs)) (lt-ltb x n (below n x h e)) r

-- different numbers below n are at most n
pub few_apart : (n : ℕ) (xs : List ℕ) → all_apart xs ≡ true → list_all (λ x. nat_lt x n) xs ≡ true → length xs ≤ n
few_apart zero [] h g = omega arith
few_apart zero (x ∷ xs) h g = let lt = ltb-true x 0 (and_parts (nat_lt x 0) (list_all (λ x. nat_lt x 0) xs) g).0 in absurd (omega (arith, lt))
few_apart (suc n) xs h g =
    let r = few_apart n (others n xs) (others_apart n xs h) (others_below n xs g) in
    omega (arith, r, others_length n xs h)
