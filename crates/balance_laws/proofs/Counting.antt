-- Lists in order, lists without a number twice, and how long they are.
use Rattle.std.proofs.Common.{◌≡◌, ◌⊎◌, inl, inr, ℕ, zero, suc, ◌-◌, ◌<◌, ◌≤◌, Bool, true, false, not, cond, List, [], ◌∷◌, ◌++◌, filter, length, refl, sym, ap, subst, ◌∙◌, arith, Ordering, Less, Equal, Greater}
use Rattle.std.specs.Prelude.{Some, is_some, ◌==◌}
use Rattle.std.specs.Ordering.{nat_cmp, is_lt, eq_by_cmp}
use Rattle.std.specs.FinMap as finmap
use Rattle.std.specs.FinMap.{find, is_sorted}
use Rattle.std.specs.FinMap.Entries.{below_all}
use Rattle.std.specs.List.{AllByRecursion}
use Rattle.std.proofs.lemmas.Bool.{and_parts, eqb-true, eq-eqb, ne_eqb}
use Rattle.std.specs.Cmp.{ranked}
use Rattle.std.proofs.lemmas.Cmp.{nat_cmp_total}
use Rattle.balance_laws.specs.Carrying.{In, Distinct}
use Rattle.balance_laws.proofs.Base.{clash}
use Rattle.balance_laws.proofs.Maps.{keys_apart, same_key}
use Rattle.balance_laws.proofs.Numbers.{all_filtered}

less_is : (c : Ordering) → is_lt c ≡ true → c ≡ Less
less_is Less h = refl
less_is Equal h = absurd cc
less_is Greater h = absurd cc

module _ {K X : Type 0} (R : K → K → Ordering) where
  pub all_below : (k : K) (es : List (K × X)) → below_all R k es ≡ true → AllByRecursion (λ (e : K × X). R k e.0 ≡ Less) es
  all_below k [] h = tt
  all_below k (e ∷ es) h = let hs = and_parts (is_lt (R k e.0)) (below_all R k es) h in (less_is (R k e.0) hs.0, all_below k es hs.1)

-- numbers of which none stands twice, below an end
drop_one : ℕ → List ℕ → List ℕ
drop_one n xs = filter (λ x. not (x == n)) xs

dropped_distinct : (n : ℕ) (xs : List ℕ) → Distinct xs → Distinct (drop_one n xs)
unfolding drop_one
dropped_distinct n [] d = tt
dropped_distinct n (x ∷ xs) d = by_test (not (x == n)) (dropped_distinct n xs d.1)
  where
    by_test : (b : Bool) → Distinct (filter (λ y. not (y == n)) xs) → Distinct (cond b (x ∷ filter (λ y. not (y == n)) xs) (filter (λ y. not (y == n)) xs))
    by_test true more = (all_filtered (λ y. y ≡ x → ⊥) (λ y. not (y == n)) xs d.0, more)
    by_test false more = more

all_stay : (n : ℕ) (xs : List ℕ) → AllByRecursion (λ y. y ≡ n → ⊥) xs → drop_one n xs ≡ xs
unfolding drop_one
all_stay n [] h = refl
all_stay n (x ∷ xs) h = ap (λ b. cond (not b) (x ∷ filter (λ y. not (y == n)) xs) (filter (λ y. not (y == n)) xs)) (ne_eqb x n h.0) ∙ ap (λ ys. x ∷ ys) (all_stay n xs h.1)

one_dropped : (n : ℕ) (xs : List ℕ) → Distinct xs → length xs ≤ suc (length (drop_one n xs))
unfolding drop_one
one_dropped n [] d = omega arith
one_dropped n (x ∷ xs) d = by_test (x == n) refl (one_dropped n xs d.1)
  where
    by_test : (b : Bool) → (x == n) ≡ b → length xs ≤ suc (length (filter (λ y. not (y == n)) xs)) → suc (length xs) ≤ suc (length (cond (not (x == n)) (x ∷ filter (λ y. not (y == n)) xs) (filter (λ y. not (y == n)) xs)))
    by_test true e more =
        let others : AllByRecursion (λ y. y ≡ n → ⊥) xs = subst (λ m. AllByRecursion (λ y. y ≡ m → ⊥) xs) (eqb-true x n e) d.0 in
        let same : length (drop_one n xs) ≡ length xs = ap length (all_stay n xs others) in
        subst (λ b. suc (length xs) ≤ suc (length (cond (not b) (x ∷ filter (λ y. not (y == n)) xs) (filter (λ y. not (y == n)) xs)))) (sym e) (omega (arith, same))
    by_test false e more = subst (λ b. suc (length xs) ≤ suc (length (cond (not b) (x ∷ filter (λ y. not (y == n)) xs) (filter (λ y. not (y == n)) xs)))) (sym e) (omega (arith, more))

dropped_below : (n : ℕ) (xs : List ℕ) → AllByRecursion (λ x. x < suc n) xs → AllByRecursion (λ x. x < n) (drop_one n xs)
unfolding drop_one
dropped_below n [] h = tt
dropped_below n (x ∷ xs) h = by_test (x == n) refl (dropped_below n xs h.1)
  where
    lower : x < suc n → (x ≡ n → ⊥) → x < n
    lower less ne = grind (arith, ne)

    by_test : (b : Bool) → (x == n) ≡ b → AllByRecursion (λ y. y < n) (filter (λ y. not (y == n)) xs) → AllByRecursion (λ y. y < n) (cond (not (x == n)) (x ∷ filter (λ y. not (y == n)) xs) (filter (λ y. not (y == n)) xs))
    by_test true e more = subst (λ b. AllByRecursion (λ y. y < n) (cond (not b) (x ∷ filter (λ y. not (y == n)) xs) (filter (λ y. not (y == n)) xs))) (sym e) more
    by_test false e more =
        subst (λ b. AllByRecursion (λ y. y < n) (cond (not b) (x ∷ filter (λ y. not (y == n)) xs) (filter (λ y. not (y == n)) xs))) (sym e)
        (lower h.0 (λ same. clash (sym (eq-eqb x n same) ∙ e)), more)

pub at_most : (n : ℕ) (xs : List ℕ) → Distinct xs → AllByRecursion (λ x. x < n) xs → length xs ≤ n
at_most zero [] d low = omega arith
at_most zero (x ∷ xs) d low = absurd (let l : x < 0 = low.0 in omega (arith, l))
at_most (suc n) xs d low =
    let rest : length (drop_one n xs) ≤ n = at_most n (drop_one n xs) (dropped_distinct n xs d) (dropped_below n xs low) in
    let one : length xs ≤ suc (length (drop_one n xs)) = one_dropped n xs d in
    omega (arith, rest, one)

-- two lists without a number twice that share none
pub in_both : (q : ℕ) (xs ys : List ℕ) → In q (xs ++ ys) → In q xs ⊎ In q ys
in_both q [] ys i = inr i
in_both q (x ∷ xs) ys (inl e) = inl (inl e)
in_both q (x ∷ xs) ys (inr i) = at_rest (in_both q xs ys i)
  where
    at_rest : In q xs ⊎ In q ys → In q (x ∷ xs) ⊎ In q ys
    at_rest (inl j) = inl (inr j)
    at_rest (inr j) = inr j

all_others : (x : ℕ) (xs : List ℕ) → (In x xs → ⊥) → AllByRecursion (λ y. y ≡ x → ⊥) xs
all_others x [] out = tt
all_others x (y ∷ xs) out = (λ e. out (inl (sym e)), all_others x xs (λ i. out (inr i)))

others_out : (x : ℕ) (xs : List ℕ) → AllByRecursion (λ y. y ≡ x → ⊥) xs → In x xs → ⊥
others_out x [] all i = i
others_out x (y ∷ xs) all (inl e) = all.0 (sym e)
others_out x (y ∷ xs) all (inr i) = others_out x xs all.1 i

pub distinct_both : (xs ys : List ℕ) → Distinct xs → Distinct ys → ((q : ℕ) → In q xs → In q ys → ⊥) → Distinct (xs ++ ys)
distinct_both [] ys dx dy apart = dy
distinct_both (x ∷ xs) ys dx dy apart =
    (all_others x (xs ++ ys) (λ i. at_part (in_both x xs ys i)), distinct_both xs ys dx.1 dy (λ q i j. apart q (inr i) j))
  where
    at_part : In x xs ⊎ In x ys → ⊥
    at_part (inl i) = others_out x xs dx.0 i
    at_part (inr j) = apart x (inl refl) j

pub distinct_from : (x : ℕ) (xs : List ℕ) → (In x xs → ⊥) → Distinct xs → Distinct (x ∷ xs)
distinct_from x xs out d = (all_others x xs out, d)

pub head_out : (x : ℕ) (xs : List ℕ) → Distinct (x ∷ xs) → In x xs → ⊥
head_out x xs d i = others_out x xs d.0 i

-- ---- keys that are all numbers from one on below an end

module _ (n : ℕ) where
  less_than : (a b : ℕ) → nat_cmp a b ≡ Less → a < b
  less_than a b h = ranked a b Less (sym h)

  rises_above : (k : ℕ) (es : List (ℕ × ℕ)) (i : ℕ) → below_all nat_cmp k es ≡ true → is_some (find nat_cmp i es) ≡ true → k < i
  rises_above k [] i h f = absurd (clash (sym f))
  rises_above k (e ∷ es) i h f =
      let hs = and_parts (is_lt (nat_cmp k e.0)) (below_all nat_cmp k es) h in
      let low : k < e.0 = less_than k e.0 (less_is (nat_cmp k e.0) hs.0) in
      by_test low (eq_by_cmp nat_cmp i e.0) refl (λ g. rises_above k es i hs.1 g)
    where
      by_test : k < e.0 → (b : Bool) → eq_by_cmp nat_cmp i e.0 ≡ b → (is_some (find nat_cmp i es) ≡ true → k < i) → k < i
      by_test low true t more = let same : i ≡ e.0 = same_key i e.0 t in omega (arith, same, low)
      by_test low false t more = more (ap (λ b. is_some (cond b (Some e.1) (find nat_cmp i es))) (sym t) ∙ f)

  pub as_many_keys : (a : ℕ) (es : List (ℕ × ℕ)) → is_sorted nat_cmp es ≡ true → AllByRecursion (λ (e : ℕ × ℕ). a ≤ e.0) es → AllByRecursion (λ (e : ℕ × ℕ). e.0 < n) es
      → ((i : ℕ) → a ≤ i → i < n → is_some (find nat_cmp i es) ≡ true) → length es ≡ n - a
  as_many_keys a [] sorted above below found = by_order (cases_less a n)
    where
      cases_less : (a n : ℕ) → (a < n) ⊎ (n ≤ a)
      cases_less a n = grind arith

      by_order : (a < n) ⊎ (n ≤ a) → 0 ≡ n - a
      by_order (inl l) = absurd (clash (sym (found a (omega arith) l)))
      by_order (inr l) = omega (arith, l)
  as_many_keys a (e ∷ es) sorted above below found =
      let hs = and_parts (below_all nat_cmp e.0 es) (is_sorted nat_cmp es) sorted in
      let up : a ≤ e.0 = above.0 in
      let low : e.0 < n = below.0 in
      let first : e.0 ≡ a = at_first hs.0 up low (eq_by_cmp nat_cmp a e.0) refl in
      let rest : length es ≡ n - suc a =
      as_many_keys (suc a) es hs.1 (higher es hs.0 first) below.1 (λ i more less. found_rest i (omega (arith, more)) less (λ same. omega (arith, same, first, more))) in
      omega (arith, rest, first, low)
    where
      at_first : below_all nat_cmp e.0 es ≡ true → a ≤ e.0 → e.0 < n → (b : Bool) → eq_by_cmp nat_cmp a e.0 ≡ b → e.0 ≡ a
      at_first h up low true t = sym (same_key a e.0 t)
      at_first h up low false t =
          let over : e.0 < a = rises_above e.0 es a h (ap (λ b. is_some (cond b (Some e.1) (find nat_cmp a es))) (sym t) ∙ found a (omega arith) (omega (arith, up, low))) in
          absurd (omega (arith, over, up))

      higher : (ds : List (ℕ × ℕ)) → below_all nat_cmp e.0 ds ≡ true → e.0 ≡ a → AllByRecursion (λ (d : ℕ × ℕ). suc a ≤ d.0) ds
      higher [] h same = tt
      higher (d ∷ ds) h same =
          let hs = and_parts (is_lt (nat_cmp e.0 d.0)) (below_all nat_cmp e.0 ds) h in
          let low : e.0 < d.0 = less_than e.0 d.0 (less_is (nat_cmp e.0 d.0) hs.0) in
          (omega (arith, low, same), higher ds hs.1 same)

      found_rest : (i : ℕ) → a ≤ i → i < n → (i ≡ e.0 → ⊥) → is_some (find nat_cmp i es) ≡ true
      found_rest i more less ne =
          ap (λ b. is_some (cond b (Some e.1) (find nat_cmp i es))) (sym (keys_apart nat_cmp nat_cmp_total finmap.nat_cmp-IsAntisymmetric i e.0 ne)) ∙ found i more less
