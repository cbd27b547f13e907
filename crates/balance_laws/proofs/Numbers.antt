-- Lists of numbers in turn, tests over them, and places where runs begin.
use Rattle.std.proofs.Common.{◌≡◌, ◌⊎◌, inl, inr, ℕ, zero, suc, ◌+◌, ◌-◌, ◌*◌, ◌/◌, ◌%◌, ◌<◌, Bool, true, false, not, ◌||◌, cond, List, [], ◌∷◌, ◌++◌, map, filter, refl, sym, ap, ◌∙◌, arith}
use Rattle.std.specs.Prelude.{◌==◌}
use Rattle.std.specs.List.{list_all, list_any, AllByRecursion}
use Rattle.std.proofs.lemmas.Bool.{and_parts, and_from, eqb-false}
use Rattle.std.proofs.lemmas.Nat.{div-add-mod', same_from_place, mod-mul-add}
use Rattle.ho_events.specs.Lists.{upto, between, are_distinct}
use Rattle.balance_laws.proofs.Base.{clash}

-- an aligned place is so many whole lengths
whole_lengths : (p m : ℕ) → p % m ≡ 0 → p ≡ p / m * m
whole_lengths p m e = let parts : p / m * m + p % m ≡ p = div-add-mod' p m in omega (arith, e, parts)

-- two aligned runs of one length that share a frame are the same
pub share_start : (m p q i j : ℕ) → p % m ≡ 0 → q % m ≡ 0 → i < m → j < m → p + i ≡ q + j → p ≡ q
share_start m p q i j ep eq li lj same =
    let wp : p ≡ p / m * m = whole_lengths p m ep in
    let wq : q ≡ q / m * m = whole_lengths q m eq in
    let both : p / m * m + i ≡ q / m * m + j = ap (λ n. n + i) (sym wp) ∙ same ∙ ap (λ n. n + j) wq in
    wp ∙ ap (λ n. n * m) (same_from_place (p / m) i (q / m) j m li lj both).0 ∙ sym wq

-- the place where a frame's run begins
pub start_of : (m q j : ℕ) → q % m ≡ 0 → j < m → (q + j) - (q + j) % m ≡ q
start_of m q j e lj =
    let w : q ≡ q / m * m = whole_lengths q m e in
    let left : (q + j) % m ≡ j = ap (λ n. (n + j) % m) w ∙ mod-mul-add (q / m) m j lj in
    omega (arith, left)

module _ {T : Type 0} (t : T → Bool) where
  pub all_end : (xs : List T) (y : T) → list_all t (xs ++ y ∷ []) ≡ true → (list_all t xs ≡ true) × (t y ≡ true)
  all_end [] y h = (refl, (and_parts (t y) true h).0)
  all_end (x ∷ xs) y h =
      let hs = and_parts (t x) (list_all t (xs ++ y ∷ [])) h in
      let more = all_end xs y hs.1 in
      (and_from (t x) (list_all t xs) hs.0 more.0, more.1)

  pub any_end : (xs : List T) (y : T) → t y ≡ true → list_any t (xs ++ y ∷ []) ≡ true
  any_end [] y h = ap (λ b. b || false) h
  any_end (x ∷ xs) y h = or_more (t x) (any_end xs y h)
    where
      or_more : (a : Bool) → list_any t (xs ++ y ∷ []) ≡ true → (a || list_any t (xs ++ y ∷ [])) ≡ true
      or_more true e = refl
      or_more false e = e

  pub any_front : (xs : List T) (y : T) → list_any t xs ≡ true → list_any t (xs ++ y ∷ []) ≡ true
  any_front [] y h = absurd (clash (sym h))
  any_front (x ∷ xs) y h = by_test (t x) refl (λ e. any_front xs y e)
    where
      by_test : (b : Bool) → t x ≡ b → (list_any t xs ≡ true → list_any t (xs ++ y ∷ []) ≡ true) → list_any t ((x ∷ xs) ++ y ∷ []) ≡ true
      by_test true e more = ap (λ b. b || list_any t (xs ++ y ∷ [])) e
      by_test false e more = ap (λ b. b || list_any t (xs ++ y ∷ [])) e ∙ more (ap (λ b. b || list_any t xs) (sym e) ∙ h)

map_end : {A B : Type 0} (f : A → B) (xs : List A) (y : A) → map f (xs ++ y ∷ []) ≡ map f xs ++ f y ∷ []
map_end f [] y = refl
map_end f (x ∷ xs) y = ap (λ zs. f x ∷ zs) (map_end f xs y)

below_suc : (i n : ℕ) → i < suc n → (i ≡ n) ⊎ (i < n)
below_suc i n h = grind arith

-- a test of all, and of one, of the numbers in turn
pub all_upto : (t : ℕ → Bool) (f : ℕ → ℕ) (n : ℕ) → list_all t (map f (upto n)) ≡ true → (i : ℕ) → i < n → t (f i) ≡ true
unfolding upto
all_upto t f zero h i less = absurd (omega (arith, less))
all_upto t f (suc n) h i less =
    let parts : (list_all t (map f (upto n)) ≡ true) × (t (f n) ≡ true) = all_end t (map f (upto n)) (f n) (ap (list_all t) (sym (map_end f (upto n) n)) ∙ h) in
    by_place parts.1 (λ low. all_upto t f n parts.0 i low) (below_suc i n less)
  where
    by_place : t (f n) ≡ true → (i < n → t (f i) ≡ true) → (i ≡ n) ⊎ (i < n) → t (f i) ≡ true
    by_place last more (inl e) = ap (λ k. t (f k)) e ∙ last
    by_place last more (inr e) = more e

pub any_upto : (t : ℕ → Bool) (n i : ℕ) → i < n → t i ≡ true → list_any t (upto n) ≡ true
unfolding upto
any_upto t zero i less h = absurd (omega (arith, less))
any_upto t (suc n) i less h = by_place (λ low. any_upto t n i low h) (below_suc i n less)
  where
    by_place : (i < n → list_any t (upto n) ≡ true) → (i ≡ n) ⊎ (i < n) → list_any t (upto n ++ n ∷ []) ≡ true
    by_place more (inl e) = any_end t (upto n) n (ap t (sym e) ∙ h)
    by_place more (inr e) = any_front t (upto n) n (more e)

-- ---- numbers of which none stands twice

abbrev pub Others : ℕ → List ℕ → Type 0
Others x xs = AllByRecursion (λ y. y ≡ x → ⊥) xs

abbrev pub Distinct : List ℕ → Type 0
Distinct [] = Unit {0}
Distinct (x ∷ xs) = Others x xs × Distinct xs

pub are_others : (x : ℕ) (xs : List ℕ) → not (list_any (λ y. y == x) xs) ≡ true → Others x xs
are_others x [] h = tt
are_others x (y ∷ xs) h = by_test (y == x) refl (λ e. are_others x xs e)
  where
    by_test : (b : Bool) → (y == x) ≡ b → (not (list_any (λ y. y == x) xs) ≡ true → Others x xs) → Others x (y ∷ xs)
    by_test true e more = absurd (clash (sym h ∙ ap (λ b. not (b || list_any (λ y. y == x) xs)) e))
    by_test false e more = (eqb-false y x e, more (ap (λ b. not (b || list_any (λ y. y == x) xs)) (sym e) ∙ h))

pub distinct_is : (xs : List ℕ) → are_distinct xs ≡ true → Distinct xs
distinct_is [] h = tt
distinct_is (x ∷ xs) h = let hs = and_parts (not (list_any (λ y. y == x) xs)) (are_distinct xs) h in (are_others x xs hs.0, distinct_is xs hs.1)

-- what holds of each is carried by a filter, and by a map
pub all_filtered : {T : Type 0} (P : T → Type 0) (t : T → Bool) (xs : List T) → AllByRecursion P xs → AllByRecursion P (filter t xs)
all_filtered P t [] h = tt
all_filtered P t (x ∷ xs) h = by_test (t x) (all_filtered P t xs h.1)
  where
    by_test : (b : Bool) → AllByRecursion P (filter t xs) → AllByRecursion P (cond b (x ∷ filter t xs) (filter t xs))
    by_test true more = (h.0, more)
    by_test false more = more

pub all_passed : {T : Type 0} (t : T → Bool) (xs : List T) → AllByRecursion (λ x. t x ≡ true) (filter t xs)
all_passed t [] = tt
all_passed t (x ∷ xs) = by_test (t x) refl (all_passed t xs)
  where
    by_test : (b : Bool) → t x ≡ b → AllByRecursion (λ x. t x ≡ true) (filter t xs) → AllByRecursion (λ x. t x ≡ true) (cond b (x ∷ filter t xs) (filter t xs))
    by_test true e more = (e, more)
    by_test false e more = more

pub all_mapped : {A B : Type 0} (P : A → Type 0) (Q : B → Type 0) (f : A → B) → ((x : A) → P x → Q (f x)) → (xs : List A) → AllByRecursion P xs → AllByRecursion Q (map f xs)
all_mapped P Q f each [] h = tt
all_mapped P Q f each (x ∷ xs) h = (each x h.0, all_mapped P Q f each xs h.1)

pub all_weaker : {T : Type 0} (P Q : T → Type 0) → ((x : T) → P x → Q x) → (xs : List T) → AllByRecursion P xs → AllByRecursion Q xs
all_weaker P Q each [] h = tt
all_weaker P Q each (x ∷ xs) h = (each x h.0, all_weaker P Q each xs h.1)

pub all_and_end : {T : Type 0} (P : T → Type 0) (xs : List T) (y : T) → AllByRecursion P xs → P y → AllByRecursion P (xs ++ y ∷ [])
all_and_end P [] y h last = (last, tt)
all_and_end P (x ∷ xs) y h last = (h.0, all_and_end P xs y h.1 last)

distinct_end : (xs : List ℕ) (n : ℕ) → Distinct xs → AllByRecursion (λ x. x < n) xs → Distinct (xs ++ n ∷ [])
distinct_end [] n d low = (tt, tt)
distinct_end (x ∷ xs) n d low =
    let less : x < n = low.0 in
    (all_and_end (λ y. y ≡ x → ⊥) xs n d.0 (λ same. omega (arith, same, less)), distinct_end xs n d.1 low.1)

pub upto_below : (n : ℕ) → AllByRecursion (λ x. x < n) (upto n)
unfolding upto
upto_below zero = tt
upto_below (suc n) = all_and_end (λ x. x < suc n) (upto n) n (all_weaker (λ x. x < n) (λ x. x < suc n) (λ x h. omega (arith, h)) (upto n) (upto_below n)) (omega arith)

pub upto_distinct : (n : ℕ) → Distinct (upto n)
unfolding upto
upto_distinct zero = tt
upto_distinct (suc n) = distinct_end (upto n) n (upto_distinct n) (upto_below n)

pub distinct_filtered : (t : ℕ → Bool) (xs : List ℕ) → Distinct xs → Distinct (filter t xs)
distinct_filtered t [] d = tt
distinct_filtered t (x ∷ xs) d = by_test (t x) (distinct_filtered t xs d.1)
  where
    by_test : (b : Bool) → Distinct (filter t xs) → Distinct (cond b (x ∷ filter t xs) (filter t xs))
    by_test true more = (all_filtered (λ y. y ≡ x → ⊥) t xs d.0, more)
    by_test false more = more

distinct_shifted : (a : ℕ) (xs : List ℕ) → Distinct xs → Distinct (map (λ i. a + i) xs)
distinct_shifted a [] d = tt
distinct_shifted a (x ∷ xs) d = (all_mapped (λ y. y ≡ x → ⊥) (λ y. y ≡ a + x → ⊥) (λ i. a + i) (λ y ne same. ne (omega (arith, same))) xs d.0, distinct_shifted a xs d.1)

pub between_distinct : (a b : ℕ) → Distinct (between a b)
between_distinct a b = distinct_shifted a (upto (b - a)) (upto_distinct (b - a))

pub between_below : (a b : ℕ) → AllByRecursion (λ x. x < b) (between a b)
between_below a b = all_mapped (λ i. i < b - a) (λ x. x < b) (λ i. a + i) (λ i h. omega (arith, h)) (upto (b - a)) (upto_below (b - a))
