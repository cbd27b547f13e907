-- Names that rise are different, and so are tokens.
use Rattle.std.proofs.Common.{◌≡◌, ℕ, ◌+◌, Bool, true, false, eqb, List, [], ◌∷◌, map, refl, sym, ap, ◌∙◌, arith, Less}
use Rattle.std.specs.Prelude.{◌&&◌, ◌||◌, nat_lt}
use Rattle.std.specs.List.{AllByRecursion, IsDistinct}
use Rattle.std.specs.Ordering.{nat_cmp, is_lt}
use Rattle.std.specs.Cmp.{nat_cmp_is}
use Rattle.std.specs.FinMap as finmap
use Rattle.std.specs.FinMap.Entries.{below_all}
use Rattle.std.proofs.lemmas.Bool.{and_parts, and_from, ltb-true, lt-ltb, eqb-true, eq-eqb, ne_eqb}
use Rattle.ho_events.specs.Lists.{same_bytes}
use Rattle.ho_world.specs.Frozen.{CarriedFile}
use Rattle.record_frames.specs.Rules.{all_rise, bytes_before}
use Rattle.session_core.specs.SessionShown.{TokensRise, listed}
use Rattle.next_laws.specs.Begins.{numbered}

-- one of two
either : (a b : Bool) → (a || b) ≡ true → (P : Type 0) → (a ≡ true → P) → (b ≡ true → P) → P
either true b h P left right = left refl
either false b h P left right = right h

or_one : (a b : Bool) → a ≡ true → (a || b) ≡ true
or_one a b h = ap (λ x. x || b) h

or_two : (a b : Bool) → b ≡ true → (a || b) ≡ true
or_two true b h = refl
or_two false b h = h

-- the order of bytes goes on
before_trans : (a b c : List ℕ) → bytes_before a b ≡ true → bytes_before b c ≡ true → bytes_before a c ≡ true
before_trans [] [] c h g = absurd cc
before_trans [] (y ∷ b) [] h g = absurd cc
before_trans [] (y ∷ b) (z ∷ c) h g = refl
before_trans (x ∷ a) [] c h g = absurd cc
before_trans (x ∷ a) (y ∷ b) [] h g = absurd cc
before_trans (x ∷ a) (y ∷ b) (z ∷ c) h g =
    either (nat_lt x y) (eqb x y && bytes_before a b) h _
    (λ lt.
    either (nat_lt y z) (eqb y z && bytes_before b c) g _
    (λ lt'. let one = ltb-true x y lt in let two = ltb-true y z lt' in or_one (nat_lt x z) (eqb x z && bytes_before a c) (lt-ltb x z (omega (arith, one, two))))
    (λ eq'. let one = ltb-true x y lt in let two = eqb-true y z (and_parts (eqb y z) (bytes_before b c) eq').0 in
    or_one (nat_lt x z) (eqb x z && bytes_before a c) (lt-ltb x z (omega (arith, one, two)))))
    (λ eq.
    let es = and_parts (eqb x y) (bytes_before a b) eq in
    let one = eqb-true x y es.0 in
    either (nat_lt y z) (eqb y z && bytes_before b c) g _
    (λ lt'. let two = ltb-true y z lt' in or_one (nat_lt x z) (eqb x z && bytes_before a c) (lt-ltb x z (omega (arith, one, two))))
    (λ eq'.
    let fs = and_parts (eqb y z) (bytes_before b c) eq' in
    let two = eqb-true y z fs.0 in
    or_two (nat_lt x z) (eqb x z && bytes_before a c)
    (and_from (eqb x z) (bytes_before a c) (eq-eqb x z (omega (arith, one, two))) (before_trans a b c es.1 fs.1))))

-- what stands before others isn't the same
before_not : (a b : List ℕ) → bytes_before a b ≡ true → same_bytes a b ≡ false
before_not [] [] h = absurd cc
before_not [] (y ∷ b) h = refl
before_not (x ∷ a) [] h = absurd cc
before_not (x ∷ a) (y ∷ b) h =
    either (nat_lt x y) (eqb x y && bytes_before a b) h _
    (λ lt. let one = ltb-true x y lt in ap (λ t. t && same_bytes a b) (ne_eqb x y (λ e. omega (arith, e, one))))
    (λ eq.
    let es = and_parts (eqb x y) (bytes_before a b) eq in
    ap (λ t. t && same_bytes a b) es.0 ∙ before_not a b es.1)

-- ---- lists that rise

module _ {A : Type 0} (before : A → A → Bool) (trans : (a b c : A) → before a b ≡ true → before b c ≡ true → before a c ≡ true) where
  all_after : (x : A) (xs : List A) → all_rise before (x ∷ xs) ≡ true → AllByRecursion (λ y. before x y ≡ true) xs
  all_after x [] h = tt
  all_after x (y ∷ xs) h =
      let hs = and_parts (before x y) (all_rise before (y ∷ xs)) h in
      (hs.0, weaker xs hs.0 (all_after y xs hs.1))
    where
      weaker : {y : A} (zs : List A) → before x y ≡ true → AllByRecursion (λ z. before y z ≡ true) zs → AllByRecursion (λ z. before x z ≡ true) zs
      weaker [] e all = tt
      weaker {y} (z ∷ zs) e all = (trans x y z e all.0, weaker zs e all.1)

  pub rise_tail : (x : A) (xs : List A) → all_rise before (x ∷ xs) ≡ true → all_rise before xs ≡ true
  rise_tail x [] h = refl
  rise_tail x (y ∷ xs) h = (and_parts (before x y) (all_rise before (y ∷ xs)) h).1

-- something else that rises alike
pub rise_map : {A B : Type 0} (f : A → B) (p : A → A → Bool) (q : B → B → Bool) → ((a b : A) → p a b ≡ q (f a) (f b)) → (xs : List A) → all_rise p xs ≡ all_rise q (map f xs)
rise_map f p q same [] = refl
rise_map f p q same (x ∷ []) = refl
rise_map f p q same (x ∷ y ∷ xs) = λ j. same x y j && rise_map f p q same (y ∷ xs) j

all_differ : (name : List ℕ) (names : List (List ℕ)) → AllByRecursion (λ n. bytes_before name n ≡ true) names → AllByRecursion (λ n. same_bytes name n ≡ false) names
all_differ name [] h = tt
all_differ name (n ∷ names) h = (before_not name n h.0, all_differ name names h.1)

pub names_differ : (names : List (List ℕ)) → all_rise bytes_before names ≡ true → IsDistinct same_bytes names
unfolding IsDistinct
names_differ [] h = tt
names_differ (n ∷ names) h =
    (all_differ n names (all_after bytes_before before_trans n names h), names_differ names (rise_tail bytes_before before_trans n names h))

-- ---- tokens

below : (a b : ℕ) → nat_lt a b ≡ true → is_lt (nat_cmp a b) ≡ true
below a b h = ap is_lt (sym (nat_cmp_is a b Less (ltb-true a b h)))

lt_trans : (a b c : CarriedFile) → nat_lt a.token b.token ≡ true → nat_lt b.token c.token ≡ true → nat_lt a.token c.token ≡ true
lt_trans a b c h g =
    let one = ltb-true a.token b.token h in
    let two = ltb-true b.token c.token g in
    lt-ltb a.token c.token (omega (arith, one, two))

all_below : (token n : ℕ) (cs : List CarriedFile) → AllByRecursion (λ c. nat_lt token c.token ≡ true) cs → below_all nat_cmp token (map listed (numbered n cs)) ≡ true
all_below token n [] h = refl
all_below token n (c ∷ cs) h =
    and_from (is_lt (nat_cmp token c.token)) (below_all nat_cmp token (map listed (numbered (n + 1) cs))) (below token c.token h.0) (all_below token (n + 1) cs h.1)

pub tokens_sorted : (n : ℕ) (cs : List CarriedFile) → all_rise (λ (a b : CarriedFile). nat_lt a.token b.token) cs ≡ true → TokensRise (numbered n cs)
tokens_sorted n [] h = refl
tokens_sorted n (c ∷ cs) h =
    and_from (below_all nat_cmp c.token (map listed (numbered (n + 1) cs))) (finmap.is_sorted nat_cmp (map listed (numbered (n + 1) cs)))
    (all_below c.token (n + 1) cs (all_after (λ (a b : CarriedFile). nat_lt a.token b.token) lt_trans c cs h))
    (tokens_sorted (n + 1) cs (rise_tail (λ (a b : CarriedFile). nat_lt a.token b.token) lt_trans c cs h))
