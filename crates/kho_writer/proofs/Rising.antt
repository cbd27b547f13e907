-- Numbers that stand once each, and elements that rise.
use Rattle.std.proofs.Common.{◌≡◌, ℕ, ◌+◌, ◌<◌, ◌≤◌, Bool, true, false, List, [], ◌∷◌, ◌++◌, length, refl, sym, ◌∙◌, inl, inr, arith}
use Rattle.std.specs.Prelude.{nat_eq, nat_lt, not, ◌&&◌, ◌||◌}
use Rattle.std.specs.List.{list_all, list_any, AllByRecursion, IsDistinct}
use Rattle.std.proofs.lemmas.Bool.{eqb-true, eqb-false, ne_eqb, eq-eqb, lt-ltb, ltb-true, and_parts, and_from, or_parts, or_from, or_left, or_right, not-true}
use Rattle.std.proofs.lemmas.List.Folds.{list_any-append}
use Rattle.std.proofs.lemmas.Map.Steps.{length-le_from_distinct_below}
use Rattle.folio_bitmaps.specs.Chunks.{Element, Rises, number_of}
use Rattle.folio_bitmaps.specs.Reading.{Follow}
use Rattle.folio_bitmaps.proofs.Keys.{number_rises}
use Rattle.record_frames.specs.Ram.{is_frame}
use Rattle.record_frames.specs.Rules.{all_apart, all_rise, element_before}

-- a number that stands apart after others isn't among them
pub not_before : (xs : List ℕ) (y : ℕ) (ys : List ℕ) → all_apart (xs ++ y ∷ ys) ≡ true → list_any (nat_eq y) xs ≡ false
not_before [] y ys h = refl
not_before (x ∷ xs) y ys h =
    let hs = and_parts (not (list_any (nat_eq x) (xs ++ y ∷ ys))) (all_apart (xs ++ y ∷ ys)) h in
    let none = or_parts (list_any (nat_eq x) xs) (list_any (nat_eq x) (y ∷ ys)) (sym (list_any-append (nat_eq x) xs (y ∷ ys)) ∙ not-true (list_any (nat_eq x) (xs ++ y ∷ ys)) hs.0) in
    let here = or_parts (nat_eq x y) (list_any (nat_eq x) ys) none.1 in
    or_from (nat_eq y x) (list_any (nat_eq y) xs) (ne_eqb y x (λ e. eqb-false x y here.0 (sym e))) (not_before xs y ys hs.1)

all_differ : (x : ℕ) (xs : List ℕ) → list_any (nat_eq x) xs ≡ false → AllByRecursion (λ y. nat_eq x y ≡ false) xs
all_differ x [] h = tt
all_differ x (y ∷ xs) h = let hs = or_parts (nat_eq x y) (list_any (nat_eq x) xs) h in (hs.0, all_differ x xs hs.1)

distinct : (xs : List ℕ) → all_apart xs ≡ true → IsDistinct nat_eq xs
unfolding IsDistinct
distinct [] h = tt
distinct (x ∷ xs) h =
    let hs = and_parts (not (list_any (nat_eq x) xs)) (all_apart xs) h in
    (all_differ x xs (not-true (list_any (nat_eq x) xs) hs.0), distinct xs hs.1)

frame_below : (n : ℕ) (xs : List ℕ) → list_all (is_frame n) xs ≡ true → (q : ℕ) → list_any (nat_eq q) xs ≡ true → q < n
frame_below n [] h q there = absurd cc
frame_below n (x ∷ xs) h q there =
    let hs = and_parts (is_frame n x) (list_all (is_frame n) xs) h in at_test (nat_eq q x) refl hs.0 (λ more. frame_below n xs hs.1 q more) there
  where
    at_test : (b : Bool) → nat_eq q x ≡ b → is_frame n x ≡ true → (list_any (nat_eq q) xs ≡ true → q < n) → (b || list_any (nat_eq q) xs) ≡ true → q < n
    at_test true e frame rest t = let lt : x < n = ltb-true x n (and_parts (nat_lt 0 x) (nat_lt x n) frame).1 in omega (arith, eqb-true q x e)
    at_test false e frame rest t = rest t

-- frames that stand once each are at most as many as there are
pub few_frames : (n : ℕ) (xs : List ℕ) → list_all (is_frame n) xs ≡ true → all_apart xs ≡ true → length xs ≤ n
few_frames n xs frames apart = length-le_from_distinct_below xs n (distinct xs apart) (frame_below n xs frames)

-- the front of what rises rises
pub rise_front : {A : Type 0} (before : A → A → Bool) (xs ys : List A) → all_rise before (xs ++ ys) ≡ true → all_rise before xs ≡ true
rise_front before [] ys h = refl
rise_front before (x ∷ []) ys h = refl
rise_front before (x ∷ y ∷ xs) ys h =
    let hs = and_parts (before x y) (all_rise before (y ∷ xs ++ ys)) h in
    and_from (before x y) (all_rise before (y ∷ xs)) hs.0 (rise_front before (y ∷ xs) ys hs.1)

before_from : (e f : Element) → Rises e f → element_before e f ≡ true
before_from e f (inl lt) = or_left (nat_lt e.order f.order) (nat_eq e.order f.order && nat_lt e.base f.base) (lt-ltb e.order f.order lt)
before_from e f (inr (same, lt)) =
    or_right (nat_lt e.order f.order) (nat_eq e.order f.order && nat_lt e.base f.base)
    (and_from (nat_eq e.order f.order) (nat_lt e.base f.base) (eq-eqb e.order f.order same) (lt-ltb e.base f.base lt))

-- elements with rising numbers rise by order and base
pub follow_rise : (n least : ℕ) (es : List Element) → Follow n least es → all_rise element_before es ≡ true
follow_rise n least [] h = refl
follow_rise n least (e ∷ []) h = refl
follow_rise n least (e ∷ f ∷ es) h =
    let later : number_of n e + 1 ≤ number_of n f = h.1.0.later in
    and_from (element_before e f) (all_rise element_before (f ∷ es))
    (before_from e f (number_rises n e f h.1.0.is.below (omega arith))) (follow_rise n (number_of n e + 1) (f ∷ es) h.1)
