-- How often numbers stand in a list.
use Rattle.std.proofs.Common.{◌≡◌, ℕ, ◌+◌, ◌≤◌, ◌<◌, Bool, true, false, List, [], ◌∷◌, ◌++◌, take, drop, refl, sym, ap, ◌∙◌, arith}
use Rattle.std.specs.Prelude.{nat_eq, nat_lt, not, ◌||◌}
use Rattle.std.specs.List.{list_all, list_any}
use Rattle.std.proofs.lemmas.Bool.{eqb-true, eq-eqb, lt-ltb, le-ltb, and_parts, and_from, or_parts, not-true}
use Rattle.std.proofs.lemmas.List.{take-append-drop}
use Rattle.record_frames.specs.Rules.{all_apart}

abbrev pub one_if : Bool → ℕ
one_if true = 1
one_if false = 0

abbrev pub occurs : ℕ → List ℕ → ℕ
occurs p [] = 0
occurs p (x ∷ xs) = one_if (nat_eq p x) + occurs p xs

pub occurs_two : (p : ℕ) (xs ys : List ℕ) → occurs p (xs ++ ys) ≡ occurs p xs + occurs p ys
occurs_two p [] ys = omega arith
occurs_two p (x ∷ xs) ys = omega (arith, occurs_two p xs ys)

pub occurs_cut : (p k : ℕ) (xs : List ℕ) → occurs p (take k xs) + occurs p (drop k xs) ≡ occurs p xs
occurs_cut p k xs = sym (occurs_two p (take k xs) (drop k xs)) ∙ ap (occurs p) (take-append-drop k xs)

-- a number that doesn't occur isn't there
absent_none : (p : ℕ) (xs : List ℕ) → occurs p xs ≡ 0 → list_any (nat_eq p) xs ≡ false
absent_none p [] h = refl
absent_none p (x ∷ xs) h = at_test (nat_eq p x) refl (λ none. absent_none p xs none)
  where
    at_test : (b : Bool) → nat_eq p x ≡ b → (occurs p xs ≡ 0 → list_any (nat_eq p) xs ≡ false) → list_any (nat_eq p) (x ∷ xs) ≡ false
    at_test true e rest = let one : one_if (nat_eq p x) ≡ 1 = ap (λ (b : Bool). one_if b) e in absurd (omega (arith, h, one))
    at_test false e rest =
        let none : one_if (nat_eq p x) ≡ 0 = ap (λ (b : Bool). one_if b) e in
        ap (λ (b : Bool). b || list_any (nat_eq p) xs) e ∙ rest (omega (arith, h, none))

none_absent : (p : ℕ) (xs : List ℕ) → list_any (nat_eq p) xs ≡ false → occurs p xs ≡ 0
none_absent p [] h = refl
none_absent p (x ∷ xs) h =
    let hs = or_parts (nat_eq p x) (list_any (nat_eq p) xs) h in
    let none : one_if (nat_eq p x) ≡ 0 = ap (λ (b : Bool). one_if b) hs.0 in
    omega (arith, none, none_absent p xs hs.1)

-- numbers stand apart exactly where each occurs once at most
pub apart_once : (p : ℕ) (xs : List ℕ) → all_apart xs ≡ true → occurs p xs ≤ 1
apart_once p [] h = omega arith
apart_once p (x ∷ xs) h =
    let hs = and_parts (not (list_any (nat_eq x) xs)) (all_apart xs) h in
    at_test (nat_eq p x) refl (none_absent x xs (not-true (list_any (nat_eq x) xs) hs.0)) (apart_once p xs hs.1)
  where
    at_test : (b : Bool) → nat_eq p x ≡ b → occurs x xs ≡ 0 → occurs p xs ≤ 1 → occurs p (x ∷ xs) ≤ 1
    at_test true e none rest =
        let same : occurs p xs ≡ occurs x xs = ap (λ (q : ℕ). occurs q xs) (eqb-true p x e) in
        let one : one_if (nat_eq p x) ≡ 1 = ap (λ (b : Bool). one_if b) e in
        omega (arith, same, none, one)
    at_test false e none rest = let zero_here : one_if (nat_eq p x) ≡ 0 = ap (λ (b : Bool). one_if b) e in omega (arith, zero_here, rest)

here_once : (x : ℕ) (xs : List ℕ) → occurs x (x ∷ xs) ≡ 1 + occurs x xs
here_once x xs = ap (λ (b : Bool). one_if b + occurs x xs) (eq-eqb x x refl)

pub once_apart : (xs : List ℕ) → ((p : ℕ) → occurs p xs ≤ 1) → all_apart xs ≡ true
once_apart [] h = refl
once_apart (x ∷ xs) h =
    let none : occurs x xs ≡ 0 = omega (arith, h x, here_once x xs) in
    and_from (not (list_any (nat_eq x) xs)) (all_apart xs) (ap not (absent_none x xs none)) (once_apart xs (λ p. omega (arith, h p)))

-- what holds of all numbers of a list holds of those that occur in it
occurs_holds : (P : ℕ → Bool) (p : ℕ) (ys : List ℕ) → 1 ≤ occurs p ys → list_all P ys ≡ true → P p ≡ true
occurs_holds P p [] some h = absurd (omega (arith, some))
occurs_holds P p (y ∷ ys) some h =
    let hs = and_parts (P y) (list_all P ys) h in at_test (nat_eq p y) refl hs.0 (λ more. occurs_holds P p ys more hs.1)
  where
    at_test : (b : Bool) → nat_eq p y ≡ b → P y ≡ true → (1 ≤ occurs p ys → P p ≡ true) → P p ≡ true
    at_test true e here rest = ap P (eqb-true p y e) ∙ here
    at_test false e here rest =
        let none : one_if (nat_eq p y) ≡ 0 = ap (λ (b : Bool). one_if b) e in
        rest (omega (arith, some, none))

pub all_there : (P : ℕ → Bool) (xs ys : List ℕ) → ((p : ℕ) → occurs p xs ≤ occurs p ys) → list_all P ys ≡ true → list_all P xs ≡ true
all_there P [] ys h all = refl
all_there P (x ∷ xs) ys h all =
    and_from (P x) (list_all P xs) (occurs_holds P x ys (omega (arith, h x, here_once x xs)) all) (all_there P xs ys (λ p. omega (arith, h p)) all)

some_there : (p : ℕ) (xs : List ℕ) → list_any (nat_eq p) xs ≡ true → 0 < occurs p xs
some_there p [] h = absurd (let no : false ≡ true = h in cc)
some_there p (x ∷ xs) h = at_test (nat_eq p x) refl (λ more. some_there p xs more)
  where
    at_test : (b : Bool) → nat_eq p x ≡ b → (list_any (nat_eq p) xs ≡ true → 0 < occurs p xs) → 0 < occurs p (x ∷ xs)
    at_test true e rest = let one : one_if (nat_eq p x) ≡ 1 = ap (λ (b : Bool). one_if b) e in omega (arith, one)
    at_test false e rest = let more = rest (sym (ap (λ (b : Bool). b || list_any (nat_eq p) xs) e) ∙ h) in omega (arith, more)

-- a number is there exactly where it occurs
pub there_occurs : (p : ℕ) (xs : List ℕ) → list_any (nat_eq p) xs ≡ nat_lt 0 (occurs p xs)
there_occurs p xs = at_test (list_any (nat_eq p) xs) refl
  where
    at_test : (b : Bool) → list_any (nat_eq p) xs ≡ b → list_any (nat_eq p) xs ≡ nat_lt 0 (occurs p xs)
    at_test true e = e ∙ sym (lt-ltb 0 (occurs p xs) (some_there p xs e))
    at_test false e = e ∙ sym (le-ltb 0 (occurs p xs) (omega (arith, none_absent p xs e)))
