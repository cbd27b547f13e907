-- The files and the pool of a kernel that begins with what a state carries.
use Rattle.std.proofs.Common.{◌≡◌, ◌⊎◌, inl, inr, ℕ, zero, suc, ◌+◌, ◌<◌, ◌≤◌, List, [], ◌∷◌, ◌++◌, length, refl, sym, ap, subst, ◌∙◌, arith}
use Rattle.std.specs.Prelude.{Option, None, Some, is_some, option_map, slice_get}
use Rattle.std.specs.Ordering.{nat_cmp}
use Rattle.std.specs.FinMap as finmap
use Rattle.std.specs.List.{AllByRecursion}
use Rattle.std.proofs.lemmas.Bool.{cases_lt}
use Rattle.ho_events.specs.File.{filled}
use Rattle.ho_events.specs.Handler.{BoundState, cold_handler, no_side}
use Rattle.ho_events.specs.Lists.{upto}
use Rattle.ho_world.specs.Frozen.{CarriedFile, Frozen, carried_files, held, next_file, next_handler, next_pool, incoming_side, own_files, own_bounds}
use Rattle.balance_laws.specs.Carrying.{CarriedFits, In, CanFollow}
use Rattle.balance_laws.specs.OneEach.{OneEach, Place}
use Rattle.balance_laws.specs.Sound.{FileFits, owns, run_in}
use Rattle.balance_laws.proofs.Base.{same_value, not_some, clash}
use Rattle.balance_laws.proofs.Cold.{none_in}
use Rattle.balance_laws.proofs.Giving.{owned_at, is_owned_at}
use Rattle.balance_laws.proofs.Maps.{put_at, put_off}
use Rattle.balance_laws.proofs.Numbering.{get_front, get_rest, get_below, below_got, length_both}
use Rattle.balance_laws.proofs.NextRuns.{IsOf, files_from, files_has, in_at, at_in, once_in, own_once, one_file_of}

-- ---- the numbers in turn, by place

upto_length : (n : ℕ) → length (upto n) ≡ n
unfolding upto
upto_length zero = refl
upto_length (suc n) = let e : length (upto n ++ n ∷ []) ≡ length (upto n) + 1 = length_both (upto n) (n ∷ []) in let h = upto_length n in omega (arith, e, h)

upto_at : (n k : ℕ) → k < n → slice_get (upto n) k ≡ Some k
unfolding upto
upto_at zero k less = absurd (omega (arith, less))
upto_at (suc n) k less = by_case (cases_lt k n) (λ l. upto_at n k l)
  where
    by_case : (k < n) ⊎ (n ≤ k) → (k < n → slice_get (upto n) k ≡ Some k) → slice_get (upto n ++ n ∷ []) k ≡ Some k
    by_case (inl l) more = get_front (upto n) (n ∷ []) k k (more l)
    by_case (inr l) more =
        let size : length (upto n) ≡ n = upto_length n in
        let same : k ≡ n = omega (arith, less, l) in
        get_rest (upto n) (n ∷ []) 0 k (omega (arith, size, same)) ∙ ap Some (sym same)

-- ---- runs put at all indexes in turn

-- from index a on
filled_from : (a : ℕ) (places rs : List ℕ) (m : finmap.FinMap nat_cmp ℕ) → ((k : ℕ) → k < length places → slice_get places k ≡ Some (a + k)) → length rs ≡ length places → (i : ℕ) → i < a → finmap.get (filled places rs m) i ≡ finmap.get m i
filled_from a [] rs m is same i less = refl
filled_from a (q ∷ places) [] m is same i less = refl
filled_from a (q ∷ places) (r ∷ rs) m is same i less =
    let first : q ≡ a + 0 = same_value q (a + 0) (is 0 (omega arith)) in
    filled_from (a + 1) places rs (finmap.insert m q r) (λ k l. (let e : a + suc k ≡ a + 1 + k = omega arith in is (suc k) (omega (arith, l)) ∙ ap Some e)) (omega (arith, same)) i (omega (arith, less))
    ∙ put_off m q r i (λ s. omega (arith, s, first, less))

filled_get : (a : ℕ) (places rs : List ℕ) (m : finmap.FinMap nat_cmp ℕ) → ((k : ℕ) → k < length places → slice_get places k ≡ Some (a + k)) → length rs ≡ length places → ((i : ℕ) → a ≤ i → finmap.get m i ≡ None)
    → (k : ℕ) → finmap.get (filled places rs m) (a + k) ≡ slice_get rs k
filled_get a [] [] m is same none k = none (a + k) (omega arith)
filled_get a [] (r ∷ rs) m is same none k = absurd (omega (arith, same))
filled_get a (q ∷ places) [] m is same none k = absurd (omega (arith, same))
filled_get a (q ∷ places) (r ∷ rs) m is same none zero =
    let first : q ≡ a + 0 = same_value q (a + 0) (is 0 (omega arith)) in
    filled_from (a + 1) places rs (finmap.insert m q r) (λ k l. (let e : a + suc k ≡ a + 1 + k = omega arith in is (suc k) (omega (arith, l)) ∙ ap Some e)) (omega (arith, same)) (a + 0) (omega arith)
    ∙ put_at m q r (a + 0) (sym first)
filled_get a (q ∷ places) (r ∷ rs) m is same none (suc k) =
    let first : q ≡ a + 0 = same_value q (a + 0) (is 0 (omega arith)) in
    let step : a + suc k ≡ a + 1 + k = omega arith in
    ap (finmap.get (filled places rs (finmap.insert m q r))) step
    ∙ filled_get (a + 1) places rs (finmap.insert m q r) (λ k l. (let e : a + suc k ≡ a + 1 + k = omega arith in is (suc k) (omega (arith, l)) ∙ ap Some e)) (omega (arith, same))
    (λ i more. put_off m q r i (λ s. omega (arith, s, first, more)) ∙ none i (omega (arith, more))) k

pub held_get : (c : CarriedFile) (k : ℕ) → finmap.get (held c).runs k ≡ slice_get c.runs k
held_get c k =
    let here : k ≡ 0 + k = omega arith in
    ap (finmap.get (held c).runs) here
    ∙ filled_get 0 (upto (length c.runs)) c.runs finmap.empty (λ i l. (let size = upto_length (length c.runs) in let same : i ≡ 0 + i = omega arith in upto_at (length c.runs) i (omega (arith, l, size)) ∙ ap Some same)) (sym (upto_length (length c.runs)))
    (λ i more. finmap.get-empty nat_cmp i) k

pub held_fits : (c : CarriedFile) → CarriedFits c → FileFits (held c)
held_fits c fits = record {
  kind = fits.kind;
  order = fits.order;
  size = fits.size;
  position = fits.position;
  below = λ i p e. (let less : i < length c.runs = below_got c.runs i p (sym (held_get c i) ∙ e) in subst (λ n. i < n) fits.runs less);
  whole = λ h i less. (let low : i < length c.runs = subst (λ n. i < n) (sym fits.runs) less in let g = get_below c.runs i low in ap is_some (held_get c i ∙ g.1));
  kept = refl;
}

all_none : (n : ℕ) (bs : List (Option BoundState)) (k : ℕ) → AllByRecursion (λ b. b ≡ None) bs → incoming_side n (slice_get bs k) ≡ no_side
all_none n [] k h = refl
all_none n (b ∷ bs) zero h = ap (λ x. incoming_side n (Some x)) h.0
all_none n (b ∷ bs) (suc k) h = all_none n bs k h.1

-- where there is no bound record, the next pool owns the runs of files alone
own_none : (bs : List (Option BoundState)) (m : finmap.FinMap nat_cmp ℕ) → AllByRecursion (λ b. b ≡ None) bs → own_bounds bs m ≡ m
own_none [] m h = refl
own_none (b ∷ bs) m h = ap (λ o. own_bounds (o ∷ bs) m) h.0 ∙ own_none bs m h.1

owned_is : (f : Frozen) → AllByRecursion (λ b. b ≡ None) f.bounds → (next_pool f).owned ≡ own_files (carried_files f) finmap.empty
owned_is f none = own_none f.bounds (own_files (carried_files f) finmap.empty) none

pub of_file : (f : Frozen) → AllByRecursion (λ b. b ≡ None) f.bounds → (p n : ℕ) → finmap.get (next_pool f).owned p ≡ Some n → IsOf (carried_files f) p n
of_file f none p n e = at (files_from (carried_files f) finmap.empty p n (ap (λ m. finmap.get m p) (sym (owned_is f none)) ∙ e))
  where
    at : (finmap.get (finmap.empty {X = ℕ} {R = nat_cmp}) p ≡ Some n) ⊎ IsOf (carried_files f) p n → IsOf (carried_files f) p n
    at (inl h) = absurd (none_in p n h)
    at (inr k) = k

module _ (f : Frozen) (can : CanFollow f) where
  abbrev cs : List CarriedFile
  cs = carried_files f

  pub cold_next : (k : ℕ) → next_handler f k ≡ cold_handler
  cold_next k = ap (λ s. record cold_handler { incoming = s }) (all_none _ f.bounds k can.bounds)

  now : (c : CarriedFile) (i p : ℕ) → slice_get cs i ≡ Some c → In p c.runs → finmap.get (next_pool f).owned p ≡ Some c.order
  now c i p e h = at (finmap.get (next_pool f).owned p) refl
    where
      at : (o : Option ℕ) → finmap.get (next_pool f).owned p ≡ o → finmap.get (next_pool f).owned p ≡ Some c.order
      at None is = absurd (clash (sym (files_has cs finmap.empty i c p e h) ∙ ap is_some (ap (λ m. finmap.get m p) (sym (owned_is f can.bounds)) ∙ is)))
      at (Some n) is =
          let k : IsOf cs p n = of_file f can.bounds p n is in
          let place : k.number ≡ i = one_file_of cs k.number i k.file c p can.apart k.is e k.has h in
          let file : k.file ≡ c = same_value k.file c (sym k.is ∙ ap (slice_get cs) place ∙ e) in
          is ∙ ap Some k.order ∙ ap (λ (d : CarriedFile). Some d.order) file

  -- the run of a file of the next kernel
  run_next : (k i : ℕ) (v : ℕ × ℕ) → run_in (next_file f k) i ≡ Some v → (c : CarriedFile) × (slice_get cs k ≡ Some c) × (slice_get c.runs i ≡ Some v.0) × (c.order ≡ v.1)
  run_next k i v e = at_file (slice_get cs k) refl e
    where
      at_file : (o : Option CarriedFile) → slice_get cs k ≡ o → run_in (option_map held o) i ≡ Some v → (c : CarriedFile) × (slice_get cs k ≡ Some c) × (slice_get c.runs i ≡ Some v.0) × (c.order ≡ v.1)
      at_file None is h = absurd (not_some v h)
      at_file (Some c) is h = at_run (slice_get c.runs i) refl (ap (option_map (λ p. (p, c.order))) (sym (held_get c i)) ∙ h)
        where
          at_run : (o : Option ℕ) → slice_get c.runs i ≡ o → option_map (λ p. (p, c.order)) (slice_get c.runs i) ≡ Some v → (c : CarriedFile) × (slice_get cs k ≡ Some c) × (slice_get c.runs i ≡ Some v.0) × (c.order ≡ v.1)
          at_run None got g = absurd (not_some v (sym (ap (option_map (λ p. (p, c.order))) got) ∙ g))
          at_run (Some p) got g =
              let same : (p, c.order) ≡ v = same_value (p, c.order) v (sym (ap (option_map (λ p. (p, c.order))) got) ∙ g) in
              (c, is, got ∙ ap (λ (y : ℕ × ℕ). Some y.0) same, ap (λ (y : ℕ × ℕ). y.1) same)

  pub owned_next : OneEach (λ k i. run_in (next_file f k) i) (owns (next_pool f))
  owned_next = record {
    there = λ k i v e. (let r = run_next k i v e in is_owned_at (next_pool f) v (now r.0 k v.0 r.1 (in_at r.0.runs i v.0 r.2) ∙ ap Some r.3));
    found = λ v h. found v (of_file f can.bounds v.0 v.1 (owned_at (next_pool f) v h));
    once = λ k m i j v e g. once k m i j v (run_next k i v e) (run_next m j v g);
  }
    where
      found : (v : ℕ × ℕ) → IsOf cs v.0 v.1 → Place (λ k i. run_in (next_file f k) i) v
      found v k =
          let m = at_in k.file.runs v.0 k.has in
          record { row = k.number; column = m.0; is = ap (λ o. run_in (option_map held o) m.0) k.is ∙ ap (option_map (λ p. (p, k.file.order))) (held_get k.file m.0 ∙ m.1) ∙ ap Some (λ j. (v.0, sym k.order j)) }

      once : (k m i j : ℕ) (v : ℕ × ℕ) → (c : CarriedFile) × (slice_get cs k ≡ Some c) × (slice_get c.runs i ≡ Some v.0) × (c.order ≡ v.1) → (d : CarriedFile) × (slice_get cs m ≡ Some d) × (slice_get d.runs j ≡ Some v.0) × (d.order ≡ v.1) → (k ≡ m) × (i ≡ j)
      once k m i j v a b =
          let same : k ≡ m = one_file_of cs k m a.0 b.0 v.0 can.apart a.1 b.1 (in_at a.0.runs i v.0 a.2) (in_at b.0.runs j v.0 b.2) in
          let file : b.0 ≡ a.0 = same_value b.0 a.0 (sym b.1 ∙ ap (slice_get cs) (sym same) ∙ a.1) in
          (same, once_in a.0.runs i j v.0 (own_once cs k a.0 can.apart a.1) a.2 (ap (λ (c : CarriedFile). slice_get c.runs j) (sym file) ∙ b.2))
