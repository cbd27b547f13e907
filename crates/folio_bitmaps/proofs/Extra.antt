-- A frame that is marked at order 0 in a chain that was written.
use Rattle.std.proofs.Common.{◌≡◌, ◌≢◌, ◌⊎◌, ℕ, zero, suc, ◌+◌, ◌*◌, ◌/◌, ◌%◌, ◌^◌, ◌<◌, ◌≤◌, true, cond, eqb, ◌||◌, List, [], ◌∷◌, take, drop, get_or, set, refl, sym, ap, subst, ◌∙◌, ⊎_elim, arith}
use Rattle.std.specs.Int.{w8, w64, bit_at, from_le_bytes}
use Rattle.std.specs.Prelude.{bit_or}
use Rattle.std.specs.FinSet as sets
use Rattle.std.proofs.lemmas.Bool.{cases_lt, cases_eq, cases_order, eq-eqb, ne_eqb, cond-true, cond-false, or_left}
use Rattle.std.proofs.lemmas.Nat.{div_below}
use Rattle.std.proofs.lemmas.List.{length-set, take-set-le, drop-set-add, drop-set-lt, get_or-take, get_or-drop}
use Rattle.std.proofs.lemmas.Nat.Bits.{bit_at_set_same, bit_at_set_other}
use Rattle.ho_base.specs.Bytes.{u64_at}
use Rattle.folio_bitmaps.specs.Runs.{Run, Runs}
use Rattle.ho_base.specs.BitmapCount.{cover, bitmaps_of, bitmaps_below, bitmap_count}
use Rattle.folio_bitmaps.specs.Chunks.{Element, element_at, start_of, run_of, number_of}
use Rattle.folio_bitmaps.specs.Written.{IsBitmap, IsWritten, full_count}
use Rattle.folio_bitmaps.proofs.Sets.{run_total, run_path, tied_itself, tied_other}
use Rattle.folio_bitmaps.proofs.Counts.{below_mono, below_more, covered}
use Rattle.folio_bitmaps.proofs.Keys.{none_below}
use Rattle.folio_bitmaps.proofs.Bits.{one_bit}
use Rattle.folio_bitmaps.proofs.Parts.{element_path, element_before, number_before, part_before, drop_more}

-- the run of one frame
abbrev pub one : ℕ → Run
one p = record { first = p; order = 0 }

first_bitmaps : (n p : ℕ) → p < n → p / 4096 < bitmaps_of n 0
first_bitmaps n p lt = div_below p 4096 (bitmaps_of n 0) (omega arith) (omega (arith, covered n 0))

pub frame_number : (n p : ℕ) → p < n → p / 4096 < bitmap_count n
unfolding bitmap_count
frame_number n p lt = omega (arith, first_bitmaps n p lt, none_below n, below_more n 0, below_mono n 1 10 (omega arith))

-- the bitmap of that number is one of order 0
order_none : (n : ℕ) (e : Element) (t : ℕ) → t < bitmaps_of n 0 → number_of n e ≡ t → e.order ≡ 0
order_none n e t lt h =
    ⊎_elim (λ (l : e.order < 1). omega arith)
    (λ (g : 1 ≤ e.order). absurd (omega (arith, below_mono n 1 e.order g, below_more n 0, none_below n)))
    (cases_lt e.order 1)

at_none : (n : ℕ) (e : Element) → e.order ≡ 0 → e.base % cover e.order ≡ 0 → (number_of n e ≡ e.base / 4096) × (e.base % 4096 ≡ 0)
at_none n e o h = (omega (arith, ap (λ (j : ℕ). bitmaps_below n j) o, ap (λ (j : ℕ). e.base / cover j) o, none_below n), sym (ap (λ (j : ℕ). e.base % cover j) o) ∙ h)

first_none : (e : Element) (b : ℕ) → e.order ≡ 0 → (run_of e b).first ≡ e.base + b
first_none e b o = omega (arith, ap (λ (j : ℕ). b * 2 ^ j) o)

-- which bit is the frame's
pub bit_found : (n : ℕ) (e : Element) (b p : ℕ) → e.base % cover e.order ≡ 0 → b < 4096 → run_of e b ≡ one p → (number_of n e ≡ p / 4096) × (b ≡ p % 4096)
bit_found n e b p h lt same =
    let o : e.order ≡ 0 = ap (λ (r : Run). r.order) same in
    let firsts : e.base + b ≡ p = sym (first_none e b o) ∙ ap (λ (r : Run). r.first) same in
    let facts = at_none n e o h in
    (facts.0 ∙ quotient e.base b p facts.1 lt firsts, rest e.base b p facts.1 lt firsts)
  where
    quotient : (x y z : ℕ) → x % 4096 ≡ 0 → y < 4096 → x + y ≡ z → x / 4096 ≡ z / 4096
    quotient x y z h lt e = omega arith

    rest : (x y z : ℕ) → x % 4096 ≡ 0 → y < 4096 → x + y ≡ z → y ≡ z % 4096
    rest x y z h lt e = omega arith

pub bit_there : (n : ℕ) (e : Element) (p : ℕ) → p < n → e.base % cover e.order ≡ 0 → number_of n e ≡ p / 4096 → run_of e (p % 4096) ≡ one p
bit_there n e p lt h number =
    let o : e.order ≡ 0 = order_none n e (p / 4096) (first_bitmaps n p lt) number in
    let facts = at_none n e o h in
    run_path (run_of e (p % 4096)) (one p) o (first_none e (p % 4096) o ∙ together e.base p facts.1 (sym facts.0 ∙ number))
  where
    together : (x z : ℕ) → x % 4096 ≡ 0 → x / 4096 ≡ z / 4096 → x + z % 4096 ≡ z
    together x z h e = omega arith

inserted_other : (runs : Runs) (r q : Run) → (q ≡ r → ⊥) → sets.contains runs q ≡ sets.contains (sets.insert runs r) q
inserted_other runs r q ne = sym (ap (λ t. t || sets.contains runs q) (tied_other q r ne)) ∙ sym (sets.contains-insert run_total runs r q)

inserted_same : (runs : Runs) (r q : Run) → q ≡ r → true ≡ sets.contains (sets.insert runs r) q
inserted_same runs r q e = sym (or_left _ _ (tied_itself q r e)) ∙ sym (sets.contains-insert run_total runs r q)

-- a bitmap of another number stays as it is
pub bitmap_other : (n : ℕ) (runs : Runs) (t p : ℕ) (e : Element) → t ≢ p / 4096 → IsBitmap n runs t e → IsBitmap n (sets.insert runs (one p)) t e
bitmap_other n runs t p e ne h = record {
  small = h.small;
  aligned = h.aligned;
  below = h.below;
  number = h.number;
  size = h.size;
  bits = λ b lt. h.bits b lt ∙ inserted_other runs (one p) (run_of e b) (λ same. ne (sym h.number ∙ (bit_found n e b p h.aligned lt same).0));
}

-- the bitmap of its number has its bit set
pub bitmap_same : (n : ℕ) (runs : Runs) (t p v : ℕ) (e f : Element) → p < n → t ≡ p / 4096 → IsBitmap n runs t e
    → f ≡ record { base = e.base; order = e.order; bits = set e.bits (p % 4096 / 8) (bit_or v (1 * 2 ^ (p % 4096 % 8) % 256)) } → v ≡ get_or e.bits (p % 4096 / 8) 0
    → IsBitmap n (sets.insert runs (one p)) t f
bitmap_same n runs t p v e f lt at h is was = subst (IsBitmap n (sets.insert runs (one p)) t) (sym is) (record {
  small = h.small;
  aligned = h.aligned;
  below = h.below;
  number = h.number;
  size = length-set e.bits (p % 4096 / 8) new ∙ h.size;
  bits = λ b few. ⊎_elim
      (λ (same : b ≡ p % 4096). ap (λ x. eqb x 1) (written b ∙ cond-true _ _ _ (eq-eqb b (p % 4096) same)) ∙ inserted_same runs (one p) (run_of e b) (ap (λ (j : ℕ). run_of e j) same ∙ there))
      (λ (ne : b ≡ p % 4096 → ⊥). ap (λ x. eqb x 1) (written b ∙ cond-false _ _ _ (ne_eqb b (p % 4096) ne)) ∙ h.bits b few
      ∙ inserted_other runs (one p) (run_of e b) (λ same. ne (bit_found n e b p h.aligned few same).1))
      (cases_eq b (p % 4096));
})
  where
    new : ℕ
    new = bit_or v (1 * 2 ^ (p % 4096 % 8) % 256)

    low : (z : ℕ) → z % 8 < 8
    low z = omega arith

    within : (z : ℕ) → z % 4096 / 8 < 512
    within z = omega arith

    written : (j : ℕ) → bit_at (get_or (set e.bits (p % 4096 / 8) new) (j / 8) 0) (j % 8) ≡ cond (eqb j (p % 4096)) 1 (bit_at (get_or e.bits (j / 8) 0) (j % 8))
    written = one_bit e.bits (p % 4096) new 1 (omega (arith, within p, h.size)) (bit_at_set_same w8 v (p % 4096 % 8) (low (p % 4096)))
        (λ i few ne. bit_at_set_other w8 v (p % 4096 % 8) (low (p % 4096)) i ne ∙ ap (λ x. bit_at x i) was)

    there : run_of e (p % 4096) ≡ one p
    there = bit_there n e p lt h.aligned (h.number ∙ at)

take_of_set : {X : Type 0} (m i : ℕ) (xs : List X) (v : X) → i < m → take m (set xs i v) ≡ set (take m xs) i v
take_of_set zero i xs v lt = absurd (omega arith)
take_of_set (suc m) i [] v lt = refl
take_of_set (suc m) zero (x ∷ xs) v lt = refl
take_of_set (suc m) (suc i) (x ∷ xs) v lt = ap (λ l. x ∷ l) (take_of_set m i xs v (omega arith))

element_behind : (k : ℕ) (p q : List ℕ) → drop (start_of k) p ≡ drop (start_of k) q → element_at p k ≡ element_at q k
element_behind k p q same = element_path (element_at p k) (element_at q k)
    (ap (λ (l : List ℕ). from_le_bytes w64 (take 8 l)) same)
    (ap (λ (l : List ℕ). from_le_bytes w64 (take 8 l)) (drop_more (start_of k) (start_of k + 8) p q same (omega arith)))
    (ap (take 512) (drop_more (start_of k) (start_of k + 16) p q same (omega arith)))

-- a byte of element k's bitmap is written
module _ (page : List ℕ) (k j v at : ℕ) (place : at ≡ start_of k + 16 + j) (few : j < 512) where
  abbrev pub changed : List ℕ
  changed = set page at v

  pub changed_before : (m : ℕ) → m ≤ start_of k + 16 → take m changed ≡ take m page
  changed_before m le = take-set-le m page at v (omega arith)

  pub changed_behind : (m : ℕ) → start_of (k + 1) ≤ m → drop m changed ≡ drop m page
  changed_behind m le = drop-set-lt m page at v (omega arith)

  pub changed_same : element_at changed k ≡ record { base = u64_at page (start_of k); order = u64_at page (start_of k + 8); bits = set (take 512 (drop (start_of k + 16) page)) j v }
  changed_same = element_path (element_at changed k) (record { base = u64_at page (start_of k); order = u64_at page (start_of k + 8); bits = set (take 512 (drop (start_of k + 16) page)) j v })
      (number_before (start_of k + 16) (start_of k) changed page (changed_before (start_of k + 16) (omega arith)) (omega arith))
      (number_before (start_of k + 16) (start_of k + 8) changed page (changed_before (start_of k + 16) (omega arith)) (omega arith))
      (ap (λ (i : ℕ). take 512 (drop (start_of k + 16) (set page i v))) place ∙ ap (take 512) (drop-set-add (start_of k + 16) page j v) ∙ take_of_set 512 j (drop (start_of k + 16) page) v few)

  pub changed_other : (q : ℕ) → q ≢ k → element_at changed q ≡ element_at page q
  changed_other q ne =
      ⊎_elim (λ (same : q ≡ k). absurd (ne same))
      (λ (o : (q < k) ⊎ (k < q)). ⊎_elim
      (λ (l : q < k). element_before (start_of k) q changed page (changed_before (start_of k) (omega arith)) (omega arith))
      (λ (g : k < q). element_behind q changed page (changed_behind (start_of q) (omega arith)))
      o)
      (cases_order q k)

-- chunk frame i with the bit of frame p set
pub marked_page : (n p : ℕ) (runs : Runs) (i next : ℕ) (page : List ℕ) (k j v at : ℕ) → p < n → i ≡ p / 4096 / 7 → k ≡ p / 4096 % 7 → j ≡ p % 4096 / 8 → at ≡ start_of k + 16 + j → v ≡ get_or page at 0
    → IsWritten n runs i next page → IsWritten n (sets.insert runs (one p)) i next (set page at (bit_or v (1 * 2 ^ (p % 4096 % 8) % 256)))
marked_page n p runs i next page k j v at lt ie ke je ae was h =
    let few : j < 512 = omega arith in
    let number : 7 * i + k ≡ p / 4096 = omega arith in
    let inside : k < full_count n i = omega (arith, frame_number n p lt) in
    let new : ℕ = bit_or v (1 * 2 ^ (p % 4096 % 8) % 256) in
    let before : take 32 (set page at new) ≡ take 32 page = changed_before page k j new at ae few 32 (omega arith) in
    let byte : v ≡ get_or (take 512 (drop (start_of k + 16) page)) (p % 4096 / 8) 0 =
    was ∙ ap (λ (x : ℕ). get_or page x 0) (ae ∙ ap (λ (x : ℕ). start_of k + 16 + x) je) ∙ sym (get_or-take 512 (drop (start_of k + 16) page) (p % 4096 / 8) 0 (omega arith) ∙ get_or-drop (start_of k + 16) page (p % 4096 / 8) 0) in
    let same : element_at (set page at new) k ≡ record { base = (element_at page k).base; order = (element_at page k).order; bits = set (element_at page k).bits (p % 4096 / 8) new } =
    changed_same page k j new at ae few ∙ ap (λ (x : ℕ). record { base = (element_at page k).base; order = (element_at page k).order; bits = set (element_at page k).bits x new }) je in
    record {
      size = length-set page at new ∙ h.size;
      next_is = number_before 32 0 (set page at new) page before (omega arith) ∙ h.next_is;
      count = number_before 32 8 (set page at new) page before (omega arith) ∙ h.count;
      zeros = part_before 32 16 16 (set page at new) page before (omega arith) ∙ h.zeros;
      elements = λ q below. ⊎_elim
          (λ (e : q ≡ k). subst (λ (x : ℕ). IsBitmap n (sets.insert runs (one p)) (7 * i + x) (element_at (set page at new) x)) (sym e)
          (bitmap_same n runs (7 * i + k) p v (element_at page k) (element_at (set page at new) k) lt number (h.elements k inside) same byte))
          (λ (ne : q ≡ k → ⊥). subst (IsBitmap n (sets.insert runs (one p)) (7 * i + q)) (sym (changed_other page k j new at ae few q ne))
          (bitmap_other n runs (7 * i + q) p (element_at page q) (λ e. ne (omega arith)) (h.elements q below)))
          (cases_eq q k);
      rest = changed_behind page k j new at ae few (start_of (full_count n i)) (omega arith) ∙ h.rest;
    }

-- another chunk frame stays as it is
pub other_page : (n p : ℕ) (runs : Runs) (i next : ℕ) (page : List ℕ) → i ≢ p / 4096 / 7 → IsWritten n runs i next page → IsWritten n (sets.insert runs (one p)) i next page
other_page n p runs i next page ne h = record {
  size = h.size;
  next_is = h.next_is;
  count = h.count;
  zeros = h.zeros;
  elements = λ q below. bitmap_other n runs (7 * i + q) p (element_at page q) (λ e. ne (omega arith)) (h.elements q below);
  rest = h.rest;
}
