-- Runs that share no frame are free in a machine that is switched on.
use Rattle.std.proofs.Common.{◌≡◌, ℕ, suc, ◌+◌, ◌%◌, ◌^◌, ◌≤◌, ◌<◌, Bool, true, false, cond, eqb, List, [], ◌∷◌, map, length, refl, ap, ◌∙◌, arith, inl, inr}
use Rattle.std.specs.Prelude.{not, ◌&&◌, ◌||◌, nat_lt, nat_le}
use Rattle.std.specs.List.{All, AllPairs, filter, list_all, list_any}
use Rattle.std.specs.Ordering.{nat_cmp}
use Rattle.std.specs.FinMap as finmap
use Rattle.std.proofs.lemmas.Bool.{and_parts, and_from, or_parts, le-leb, leb-true, lt-ltb, ltb-true, cases_lt}
use Rattle.std.proofs.lemmas.Nat.{pow_pos}
use Rattle.std.proofs.lemmas.List.Elements.{All-nil, All-cons}
use Rattle.std.proofs.lemmas.List.Kept.{AllPairs-cons}
use Rattle.ho_base.specs.ShapeRule.{Layout, in_scratch}
use Rattle.ho_base.specs.declared.numbers.Pfn.{Pfn}
use Rattle.ho_base.specs.declared.numbers.Order.{Order}
use Rattle.ho_events.specs.Lists.{upto, is_just}
use Rattle.ho_events.specs.Pool.{cold_pool, is_free, is_free_run, frames_of, run_start}
use Rattle.folio_bitmaps.specs.Runs.{Run}
use Rattle.pool_core.specs.PoolAdopting.{ApartRuns, CanAdopt}
use Rattle.pool_core.proofs.PoolFree.{of_each}
use Rattle.record_frames.specs.Rules.{is_run}
use Rattle.record_frames.specs.Owners.{run_holds}
use Rattle.next_laws.proofs.OffScratch.{some_counted}

-- a run is of a known order, and one of n frames
abbrev pub may_be : ℕ → Run → Bool
may_be n r = nat_le r.order 9 && is_run n r.order r.first

-- a run as the pool takes it
abbrev pub as_pair : Run → Pfn × Order
as_pair r = (record { 0 = r.first }, record { 0 = r.order })

-- the same as facts
record Fits (n : ℕ) (r : Run) : Type 0 where
  small : r.order ≤ 9
  some : 0 < r.first
  aligned : eqb (r.first % 2 ^ r.order) 0 ≡ true
  within : r.first + 2 ^ r.order ≤ n

fits_of : (n : ℕ) (r : Run) → may_be n r ≡ true → Fits n r
fits_of n r h =
    let a = and_parts (nat_le r.order 9) (is_run n r.order r.first) h in
    let b = and_parts _ (nat_le (r.first + 2 ^ r.order) n) a.1 in
    let c = and_parts (nat_lt 0 r.first) (eqb (r.first % 2 ^ r.order) 0) b.0 in
    record { small = leb-true r.order 9 a.0; some = ltb-true 0 r.first c.0; aligned = c.1; within = leb-true (r.first + 2 ^ r.order) n b.1 }

holds_at : (q : ℕ) (r : Run) → r.first ≤ q → q < r.first + 2 ^ r.order → run_holds q r ≡ true
holds_at q r from to = and_from (nat_le r.first q) (nat_lt q (r.first + 2 ^ r.order)) (le-leb r.first q from) (lt-ltb q (r.first + 2 ^ r.order) to)

-- ---- free frames of a machine that is switched on

none_owned : (p : ℕ) (os : List ℕ) → list_any (λ o. is_just o (finmap.get (finmap.empty {X = ℕ} {R = nat_cmp}) (run_start o p))) os ≡ false
none_owned p [] = refl
none_owned p (o ∷ os) = ap (λ v. is_just o v || list_any (λ o. is_just o (finmap.get (finmap.empty {X = ℕ} {R = nat_cmp}) (run_start o p))) os) (finmap.get-empty {X = ℕ} nat_cmp (run_start o p)) ∙ none_owned p os

is_free_now : (shape : Layout) (p : ℕ) → 0 < p → p < shape.frames → in_scratch shape.scratch p ≡ false → is_free (cold_pool shape) p ≡ true
is_free_now shape p some lt off = λ j. lt-ltb 0 p some j && lt-ltb p shape.frames lt j && not (off j) && not (none_owned p (upto 10) j)

-- a run of frames that runs may have, none of which is a scratch frame
free_run : (shape : Layout) (r : Run) → Fits shape.frames r → ((q : ℕ) → q < shape.frames → run_holds q r ≡ true → in_scratch shape.scratch q ≡ false)
    → is_free_run (cold_pool shape) r.order r.first ≡ true
free_run shape r fits off =
    let some = fits.some in
    let within = fits.within in
    and_from (eqb (r.first % 2 ^ r.order) 0) (list_all (is_free (cold_pool shape)) (frames_of r.order r.first)) fits.aligned
    (of_each (is_free (cold_pool shape)) r.first (2 ^ r.order)
    (λ q from to.
    let lt : q < shape.frames = omega (arith, to, within) in
    is_free_now shape q (omega (arith, some, from)) lt (off q lt (holds_at q r from to))))

-- ---- runs that share no frame

-- a frame that the first of some runs holds is held by none of the others, where no frame is held twice
alone : (n : ℕ) (r : Run) (rs : List Run) → ((q : ℕ) → q < n → length (filter (run_holds q) (r ∷ rs)) ≤ 1) → (q : ℕ) → q < n → run_holds q r ≡ true → list_any (run_holds q) rs ≡ false
alone n r rs once q lt here = at_test (list_any (run_holds q) rs) refl
  where
    at_test : (b : Bool) → list_any (run_holds q) rs ≡ b → b ≡ false
    at_test true e =
        let few = once q lt in
        let some = some_counted (run_holds q) rs e in
        let both : length (filter (run_holds q) (r ∷ rs)) ≡ suc (length (filter (run_holds q) rs)) =
        ap (λ b. length (cond b (r ∷ filter (run_holds q) rs) (filter (run_holds q) rs))) here in
        absurd (omega (arith, few, some, both))
    at_test false e = refl

fewer : {A : Type 0} (P : A → Bool) (x : A) (xs : List A) → length (filter P xs) ≤ length (filter P (x ∷ xs))
fewer P x xs = at_test (P x)
  where
    at_test : (b : Bool) → length (filter P xs) ≤ length (cond b (x ∷ filter P xs) (filter P xs))
    at_test true = omega arith
    at_test false = omega arith

clash : {X : Type 0} (b : Bool) → b ≡ true → b ≡ false → X
clash true h g = absurd cc
clash false h g = absurd cc

two_apart : (n : ℕ) (r s : Run) → Fits n r → Fits n s → ((q : ℕ) → q < n → run_holds q r ≡ true → run_holds q s ≡ false) → ApartRuns (as_pair r) (as_pair s)
two_apart n r s one two none =
    elim (cases_lt s.first (r.first + 2 ^ r.order)) [
      | inl lt ↦ elim (cases_lt r.first (s.first + 2 ^ s.order)) [
        | inl gt ↦ elim (cases_lt r.first s.first) [
          | inl before ↦ meet s.first (omega (arith, before)) lt (omega arith) (own s)
          | inr after ↦ meet r.first (omega arith) (own r) (omega (arith, after)) gt
        ]
        | inr le ↦ inr le
      ]
      | inr le ↦ inl le
    ]
  where
    own : (t : Run) → t.first < t.first + 2 ^ t.order
    own t = let pos : 0 < 2 ^ t.order = pow_pos t.order in omega (arith, pos)

    meet : (q : ℕ) → r.first ≤ q → q < r.first + 2 ^ r.order → s.first ≤ q → q < s.first + 2 ^ s.order → ApartRuns (as_pair r) (as_pair s)
    meet q a b c d =
        let end = one.within in
        clash (run_holds q s) (holds_at q s c d) (none q (omega (arith, b, end)) (holds_at q r a b))

apart_from : (n : ℕ) (r : Run) (rs : List Run) → Fits n r → list_all (may_be n) rs ≡ true → ((q : ℕ) → q < n → run_holds q r ≡ true → list_any (run_holds q) rs ≡ false)
    → All (ApartRuns (as_pair r)) (map as_pair rs)
apart_from n r [] one all none = All-nil (ApartRuns (as_pair r))
apart_from n r (s ∷ rs) one all none =
    let as' = and_parts (may_be n s) (list_all (may_be n) rs) all in
    All-cons (ApartRuns (as_pair r)) (as_pair s) (map as_pair rs)
    (two_apart n r s one (fits_of n s as'.0) (λ q lt h. (or_parts (run_holds q s) (list_any (run_holds q) rs) (none q lt h)).0))
    (apart_from n r rs one as'.1 (λ q lt h. (or_parts (run_holds q s) (list_any (run_holds q) rs) (none q lt h)).1))

all_apart : (n : ℕ) (rs : List Run) → list_all (may_be n) rs ≡ true → ((q : ℕ) → q < n → length (filter (run_holds q) rs) ≤ 1) → AllPairs ApartRuns (map as_pair rs)
all_apart n [] all once = λ i j d lt h. absurd (omega (arith, h))
all_apart n (r ∷ rs) all once =
    let as' = and_parts (may_be n r) (list_all (may_be n) rs) all in
    AllPairs-cons ApartRuns (as_pair r) (map as_pair rs)
    (apart_from n r rs (fits_of n r as'.0) as'.1 (alone n r rs once))
    (all_apart n rs as'.1 (λ q lt. let few = once q lt in let le = fewer (run_holds q) r rs in omega (arith, few, le)))

all_small : (n : ℕ) (rs : List Run) → list_all (may_be n) rs ≡ true → All (λ (r : Pfn × Order). r.1.0 ≤ 9) (map as_pair rs)
all_small n [] all = All-nil (λ (r : Pfn × Order). r.1.0 ≤ 9)
all_small n (r ∷ rs) all =
    let as' = and_parts (may_be n r) (list_all (may_be n) rs) all in
    All-cons (λ (r : Pfn × Order). r.1.0 ≤ 9) (as_pair r) (map as_pair rs) (fits_of n r as'.0).small (all_small n rs as'.1)

all_free : (shape : Layout) (rs : List Run) → list_all (may_be shape.frames) rs ≡ true → ((q : ℕ) → q < shape.frames → list_any (run_holds q) rs ≡ true → in_scratch shape.scratch q ≡ false)
    → All (λ (r : Pfn × Order). is_free_run (cold_pool shape) r.1.0 r.0.0 ≡ true) (map as_pair rs)
all_free shape [] all off = All-nil (λ (r : Pfn × Order). is_free_run (cold_pool shape) r.1.0 r.0.0 ≡ true)
all_free shape (r ∷ rs) all off =
    let as' = and_parts (may_be shape.frames r) (list_all (may_be shape.frames) rs) all in
    All-cons (λ (r : Pfn × Order). is_free_run (cold_pool shape) r.1.0 r.0.0 ≡ true) (as_pair r) (map as_pair rs)
    (free_run shape r (fits_of shape.frames r as'.0) (λ q lt h. off q lt (ap (λ b. b || list_any (run_holds q) rs) h)))
    (all_free shape rs as'.1 (λ q lt any. off q lt (or_right (run_holds q r) (list_any (run_holds q) rs) any)))
  where
    or_right : (a b : Bool) → b ≡ true → (a || b) ≡ true
    or_right true b g = refl
    or_right false b g = g

-- A machine of a shape can begin with runs of its frames where no frame is held twice and no scratch frame is held.
pub can_adopt : (shape : Layout) (rs : List Run) → list_all (may_be shape.frames) rs ≡ true → ((q : ℕ) → q < shape.frames → length (filter (run_holds q) rs) ≤ 1)
    → ((q : ℕ) → q < shape.frames → list_any (run_holds q) rs ≡ true → in_scratch shape.scratch q ≡ false) → CanAdopt shape (map as_pair rs)
can_adopt shape rs all once off = record { orders = all_small shape.frames rs all; free = all_free shape rs all off; apart = all_apart shape.frames rs all once }
