-- The free frames and runs of a state, and those of the set that a buddy allocator keeps.
use Rattle.std.proofs.Common.{◌≡◌, ◌≢◌, ℕ, ◌+◌, ◌-◌, ◌*◌, ◌/◌, ◌%◌, ◌^◌, ◌<◌, ◌≤◌, ◌&&◌, not, nat_lt, Bool, true, false, cond, List, [], ◌∷◌, ◌++◌, length, map, refl, ap, sym, ◌∙◌, arith, zero, suc, ⊎_elim}
use Rattle.std.specs.List.{list_all, count_by}
use Rattle.std.proofs.lemmas.List.Sums.{sum_by_push}
use Rattle.std.proofs.lemmas.Bool.{cases_eq, and_parts, and_from, eqb-true, eq-eqb, ltb-true, not-true}
use Rattle.std.proofs.lemmas.Nat.{pow_pos}
use Rattle.std.proofs.Math.Nat.{mod-lt, div-add-mod', mod-eq-zero_of_dvd, dvd-mul_left}
use Rattle.ho_base.specs.ShapeRule.{Layout, in_scratch}
use Rattle.ho_events.specs.Lists.{upto}
use Rattle.ho_events.specs.Pool.{PoolState, is_free, is_free_run, free_runs}
use Rattle.buddy_pages.specs.FreeFrames as buddy
use Rattle.buddy_pages.proofs.Powers.{multiple_step}
use Rattle.buddy_pages.proofs.Frames.{same_bool, IsRun, IsRun-from, is_free_run-from}
use Rattle.buddy_pages.proofs.Totals.{total, total-zero, total-suc, total_same, total_rest}
use Rattle.buddy_pages.proofs.Runs.{bit, bit_false, runs_total, run_fits}
use Rattle.folio_bitmaps.specs.Runs.{Runs}
use Rattle.pool_core.specs.PoolTags.{TableValue, is_held, is_usable}
use Rattle.pool_core.specs.PoolFramesValues.{state_of}
use Rattle.pool_core.proofs.PoolOwned.{owned_frame}
use Rattle.pool_core.proofs.PoolHeld.{none_false}

-- a frame is free where runs may have it and none holds it
pub free_is : (t : TableValue) (marks : Runs) (p : ℕ) → is_free (state_of t marks) p ≡ (is_usable t.shape p && not (is_held t.tags p))
unfolding is_usable
free_is t marks p = ap (λ b. nat_lt 0 p && nat_lt p t.shape.frames && not (in_scratch t.shape.scratch p) && not b) (owned_frame t.tags p)

pub free_usable : (t : TableValue) (marks : Runs) (p : ℕ) → is_free (state_of t marks) p ≡ true → is_usable t.shape p ≡ true
free_usable t marks p h = (and_parts _ _ (sym (free_is t marks p) ∙ h)).0

pub free_not_held : (t : TableValue) (marks : Runs) (p : ℕ) → is_free (state_of t marks) p ≡ true → is_held t.tags p ≡ false
free_not_held t marks p h = not-true _ (and_parts _ _ (sym (free_is t marks p) ∙ h)).1

pub usable_later : (shape : Layout) (p : ℕ) → is_usable shape p ≡ true → 0 < p
unfolding is_usable
usable_later shape p h = ltb-true 0 p (and_parts _ _ (and_parts _ _ h).0).0

pub usable_below : (shape : Layout) (p : ℕ) → is_usable shape p ≡ true → p < shape.frames
unfolding is_usable
usable_below shape p h = ltb-true p shape.frames (and_parts _ _ (and_parts _ _ h).0).1

-- a test of each frame of a run
all_push : (f : ℕ → Bool) (xs : List ℕ) (y : ℕ) → list_all f xs ≡ true → f y ≡ true → list_all f (xs ++ y ∷ []) ≡ true
all_push f [] y h k = and_from (f y) true k refl
all_push f (x ∷ xs) y h k =
    let both : (f x ≡ true) × (list_all f xs ≡ true) = and_parts (f x) (list_all f xs) h in
    and_from (f x) (list_all f (xs ++ y ∷ [])) both.0 (all_push f xs y both.1 k)

all_front : (f : ℕ → Bool) (xs : List ℕ) (y : ℕ) → list_all f (xs ++ y ∷ []) ≡ true → (list_all f xs ≡ true) × (f y ≡ true)
all_front f [] y h = (refl, (and_parts (f y) true h).0)
all_front f (x ∷ xs) y h =
    let both : (f x ≡ true) × (list_all f (xs ++ y ∷ []) ≡ true) = and_parts (f x) (list_all f (xs ++ y ∷ [])) h in
    let rest = all_front f xs y both.1 in
    (and_from (f x) (list_all f xs) both.0 rest.0, rest.1)

map_push : (p : ℕ) (xs : List ℕ) (n : ℕ) → map (λ i. p + i) (xs ++ n ∷ []) ≡ map (λ i. p + i) xs ++ (p + n) ∷ []
map_push p [] n = refl
map_push p (x ∷ xs) n = ap (λ ys. (p + x) ∷ ys) (map_push p xs n)

pub each_of : (f : ℕ → Bool) (p n : ℕ) → list_all f (map (λ i. p + i) (upto n)) ≡ true → (q : ℕ) → p ≤ q → q < p + n → f q ≡ true
unfolding upto
each_of f p zero h q from to = absurd (omega arith)
each_of f p (suc n) h q from to =
    let parts = all_front f (map (λ i. p + i) (upto n)) (p + n) (sym (ap (list_all f) (map_push p (upto n) n)) ∙ h) in
    ⊎_elim (λ (e : q ≡ p + n). ap f e ∙ parts.1)
    (λ (ne : q ≢ p + n). each_of f p n parts.0 q from (omega arith))
    (cases_eq q (p + n))

pub of_each : (f : ℕ → Bool) (p n : ℕ) → ((q : ℕ) → p ≤ q → q < p + n → f q ≡ true) → list_all f (map (λ i. p + i) (upto n)) ≡ true
unfolding upto
of_each f p zero h = refl
of_each f p (suc n) h =
    ap (list_all f) (map_push p (upto n) n)
    ∙ all_push f (map (λ i. p + i) (upto n)) (p + n) (of_each f p n (λ q from to. h q from (omega arith))) (h (p + n) (omega arith) (omega arith))

pub run_frames : (s : PoolState) (o p : ℕ) → is_free_run s o p ≡ true → (q : ℕ) → p ≤ q → q < p + 2 ^ o → is_free s q ≡ true
run_frames s o p h = each_of (is_free s) p (2 ^ o) (and_parts _ _ h).1

pub run_aligned : (s : PoolState) (o p : ℕ) → is_free_run s o p ≡ true → p % 2 ^ o ≡ 0
run_aligned s o p h = eqb-true (p % 2 ^ o) 0 (and_parts _ _ h).0

pub run_from : (s : PoolState) (o p : ℕ) → p % 2 ^ o ≡ 0 → ((q : ℕ) → p ≤ q → q < p + 2 ^ o → is_free s q ≡ true) → is_free_run s o p ≡ true
run_from s o p h each = and_from _ _ (eq-eqb (p % 2 ^ o) 0 h) (of_each (is_free s) p (2 ^ o) each)

-- the set and the state have the same free frames: then they have the same free runs
module _ (s : PoolState) (free : List Bool) (same : (p : ℕ) → buddy.is_free free p ≡ is_free s p) where
  pub run_alike : (o p : ℕ) → buddy.is_free_run free o p ≡ is_free_run s o p
  run_alike o p =
      same_bool (buddy.is_free_run free o p) (is_free_run s o p)
      (λ h. let r : IsRun free o p = IsRun-from free o p h in run_from s o p r.aligned (λ q from to. sym (same q) ∙ r.frames.each q from to))
      (λ h. is_free_run-from free o p (record { aligned = run_aligned s o p h; frames = record { each = λ q from to. same q ∙ run_frames s o p h q from to } }))

  count_total : (f : ℕ → Bool) (n : ℕ) → count_by f (upto n) ≡ total (λ k. cond (f k) 1 0) n
  unfolding upto
  count_total f zero = sym (total-zero (λ k. cond (f k) 1 0))
  count_total f (suc n) =
      sum_by_push (λ k. cond (f k) 1 0) (upto n) n
      ∙ ap (λ z. z + cond (f n) 1 0) (count_total f n)
      ∙ sym (total-suc (λ k. cond (f k) 1 0) n)

  multiple : (k m : ℕ) → (k * m) % m ≡ 0
  multiple k m = mod-eq-zero_of_dvd m (dvd-mul_left m k)

  -- a sum whose numbers between multiples of m are 0
  total_steps : (f : ℕ → ℕ) (m k : ℕ) → 0 < m → ((p : ℕ) → p % m ≢ 0 → f p ≡ 0) → total f (k * m) ≡ total (λ i. f (i * m)) k
  total_steps f m zero pos h = let e : 0 * m ≡ 0 = omega arith in ap (total f) e ∙ total-zero f ∙ sym (total-zero (λ i. f (i * m)))
  total_steps f m (suc k) pos h =
      let e : suc k * m ≡ (suc (k * m)) + (m - 1) = step k m pos in
      let nothing : total f (suc (k * m) + (m - 1)) ≡ total f (suc (k * m)) = total_rest f (suc (k * m)) (m - 1)
      (λ i a b. h i (λ z. let far : k * m + m ≤ i = multiple_step (k * m) i m (multiple k m) z (omega arith) in absurd (omega arith))) in
      let one : total f (suc (k * m)) ≡ total f (k * m) + f (k * m) = total-suc f (k * m) in
      let before : total f (k * m) ≡ total (λ i. f (i * m)) k = total_steps f m k pos h in
      let all : total (λ i. f (i * m)) (suc k) ≡ total (λ i. f (i * m)) k + f (k * m) = total-suc (λ i. f (i * m)) k in
      ap (total f) e ∙ nothing ∙ one ∙ ap (λ z. z + f (k * m)) before ∙ sym all
    where
      step : (k m : ℕ) → 0 < m → suc k * m ≡ (suc (k * m)) + (m - 1)
      step k m pos = let e : suc k * m ≡ k * m + m = ring in omega arith
        where
          ring : suc k * m ≡ k * m + m
          ring = grind arith

  bits : (o k : ℕ) → bit (buddy.is_free_run free o (k * 2 ^ o)) ≡ cond (is_free_run s o (k * 2 ^ o)) 1 0
  unfolding bit
  bits o k = ap (λ b. cond b 1 0) (run_alike o (k * 2 ^ o))

  pub runs_alike : length free ≡ s.shape.frames → (o : ℕ) → buddy.free_runs free o ≡ free_runs s o
  runs_alike len o =
      let m : ℕ = 2 ^ o in
      let pos : 0 < 2 ^ o = pow_pos o in
      let n : ℕ = length free in
      let f : ℕ → ℕ = λ p. bit (buddy.is_free_run free o p) in
      let whole : n ≡ n / 2 ^ o * 2 ^ o + n % 2 ^ o = sym (div-add-mod' n (2 ^ o)) in
      let rest : n % 2 ^ o < 2 ^ o = mod-lt n pos in
      runs_total free o ∙ ap (total f) whole
      ∙ total_rest f (n / 2 ^ o * 2 ^ o) (n % 2 ^ o)
      (λ i a b. bit_false (buddy.is_free_run free o i) (none_false (buddy.is_free_run free o i) (λ h. past i a b (IsRun-from free o i h))))
      ∙ total_steps f (2 ^ o) (n / 2 ^ o) pos
      (λ p ne. bit_false (buddy.is_free_run free o p) (none_false (buddy.is_free_run free o p) (λ h. ne (IsRun-from free o p h).aligned)))
      ∙ total_same (λ k. f (k * 2 ^ o)) (λ k. cond (is_free_run s o (k * 2 ^ o)) 1 0) (n / 2 ^ o) (λ k below. bits o k)
      ∙ sym (count_total (λ k. is_free_run s o (k * 2 ^ o)) (n / 2 ^ o))
      ∙ ap (λ z. count_by (λ k. is_free_run s o (k * 2 ^ o)) (upto (z / 2 ^ o))) len
    where
      past : (i : ℕ) → length free / 2 ^ o * 2 ^ o ≤ i → i < length free / 2 ^ o * 2 ^ o + length free % 2 ^ o → IsRun free o i → ⊥
      past i a b r =
          let whole : length free / 2 ^ o * 2 ^ o + length free % 2 ^ o ≡ length free = div-add-mod' (length free) (2 ^ o) in
          let rest : length free % 2 ^ o < 2 ^ o = mod-lt (length free) (pow_pos o) in
          let fits : i + 2 ^ o ≤ length free = run_fits free o i r in
          omega arith
