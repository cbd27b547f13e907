-- Where the bits of runs are: no two runs have one bit.
use Rattle.std.proofs.Common.{◌≡◌, ◌⊎◌, ℕ, zero, suc, ◌+◌, ◌-◌, ◌*◌, ◌/◌, ◌%◌, ◌^◌, ◌<◌, ◌≤◌, refl, sym, ap, ◌∙◌, ⊎_elim, arith}
use Rattle.std.proofs.lemmas.Bool.{cases_lt, cases_order}
use Rattle.std.proofs.lemmas.Nat.{pow_pos, div_below}
use Rattle.std.proofs.Math.Nat.{div-add-mod', mod-lt}
use Rattle.folio_bitmaps.specs.Runs.{Run, IsRun}
use Rattle.ho_base.specs.BitmapCount.{cover, bitmaps_of, bitmaps_below, bitmap_count}
use Rattle.folio_bitmaps.specs.Bitmaps.{bit_index}
use Rattle.folio_bitmaps.proofs.Sets.{run_path}

pub cover_pos : (o : ℕ) → 0 < cover o
cover_pos o = omega (arith, pow_pos o)

-- a quotient that is rounded up covers all
pub ceil_covers : (n c : ℕ) → 0 < c → n ≤ (n + (c - 1)) / c * c
ceil_covers n c pos = omega (arith, div-add-mod' (n + (c - 1)) c, mod-lt (n + (c - 1)) pos)

pub covered : (n o : ℕ) → n ≤ bitmaps_of n o * cover o
covered n o = ceil_covers n (cover o) (cover_pos o)

pub below_more : (n o : ℕ) → bitmaps_below n (suc o) ≡ bitmaps_below n o + bitmaps_of n o
unfolding bitmaps_below
below_more n o = refl

pub below_mono : (n o p : ℕ) → o ≤ p → bitmaps_below n o ≤ bitmaps_below n p
below_mono n o zero le = let e : o ≡ 0 = omega arith in omega (arith, ap (bitmaps_below n) e)
below_mono n o (suc p) le =
    ⊎_elim (λ (lt : o < suc p). omega (arith, below_mono n o p (omega arith), below_more n p))
    (λ (ge : suc p ≤ o). let e : o ≡ suc p = omega arith in omega (arith, ap (bitmaps_below n) e))
    (cases_lt o (suc p))

-- a frame of n lies in one of the bitmaps of an order
pub within_order : (n o p : ℕ) → p < n → p / 2 ^ o < 4096 * bitmaps_of n o
within_order n o p lt =
    let wide : bitmaps_of n o * cover o ≡ 4096 * bitmaps_of n o * 2 ^ o = grind arith in
    div_below p (2 ^ o) (4096 * bitmaps_of n o) (pow_pos o) (omega (arith, covered n o, wide))

pub run_below : (n : ℕ) (r : Run) → IsRun n r → r.first < n
run_below n r h = omega (arith, pow_pos r.order, h.2)

pub bit_index_within : (n : ℕ) (r : Run) → IsRun n r → bit_index n r < 4096 * bitmaps_below n (suc r.order)
bit_index_within n r h = omega (arith, within_order n r.order r.first (run_below n r h), below_more n r.order)

pub bit_index_count : (n : ℕ) (r : Run) → IsRun n r → bit_index n r < 4096 * bitmap_count n
unfolding bitmap_count
bit_index_count n r h = omega (arith, bit_index_within n r h, below_mono n (suc r.order) 10 (omega (arith, h.0)))

apart_orders : (n : ℕ) (r s : Run) → IsRun n r → r.order < s.order → bit_index n r < bit_index n s
apart_orders n r s h lt = omega (arith, bit_index_within n r h, below_mono n (suc r.order) s.order (omega arith))

pub aligned_is : (p o : ℕ) → p % 2 ^ o ≡ 0 → p ≡ p / 2 ^ o * 2 ^ o
aligned_is p o e = omega (arith, div-add-mod' p (2 ^ o))

pub bit_index_only : (n : ℕ) (r s : Run) → IsRun n r → IsRun n s → bit_index n r ≡ bit_index n s → r ≡ s
bit_index_only n r s h k e =
    ⊎_elim (λ (same : r.order ≡ s.order).
    let quotient : r.first / 2 ^ r.order ≡ s.first / 2 ^ s.order = omega (arith, ap (λ (o : ℕ). bitmaps_below n o) same) in
    let firsts : r.first ≡ s.first = aligned_is r.first r.order h.1 ∙ (λ i. quotient i * 2 ^ same i) ∙ sym (aligned_is s.first s.order k.1) in
    run_path r s same firsts)
    (λ (ne : (r.order < s.order) ⊎ (s.order < r.order)).
    ⊎_elim (λ (lt : r.order < s.order). absurd (omega (arith, apart_orders n r s h lt)))
    (λ (lt : s.order < r.order). absurd (omega (arith, apart_orders n s r k lt)))
    ne)
    (cases_order r.order s.order)

-- a bit of an order that is a run's bit is that of the last frames of the run
pub bit_index_ends : (n : ℕ) (r : Run) → IsRun n r → (o i : ℕ) → i < 4096 * bitmaps_of n o → 4096 * bitmaps_below n o + i ≡ bit_index n r → (i + 1) * 2 ^ o ≤ n
bit_index_ends n r h o i lt e =
    ⊎_elim (λ (same : o ≡ r.order).
    let at : i ≡ r.first / 2 ^ r.order = omega (arith, ap (λ (p : ℕ). bitmaps_below n p) same) in
    let first : r.first ≡ i * 2 ^ o = aligned_is r.first r.order h.1 ∙ (λ j. sym at j * 2 ^ sym same j) in
    let count : 2 ^ o ≡ 2 ^ r.order = ap (λ (p : ℕ). 2 ^ p) same in
    let more : (i + 1) * 2 ^ o ≡ i * 2 ^ o + 2 ^ o = omega arith in
    omega (arith, h.2))
    (λ (ne : (o < r.order) ⊎ (r.order < o)).
    ⊎_elim (λ (l : o < r.order). absurd (omega (arith, below_mono n (suc o) r.order (omega arith), below_more n o)))
    (λ (l : r.order < o). absurd (omega (arith, below_mono n (suc r.order) o (omega arith), bit_index_within n r h)))
    ne)
    (cases_order o r.order)

pub below_next : (n o : ℕ) → bitmaps_below n (o + 1) ≡ bitmaps_below n o + bitmaps_of n o
below_next n o = let e : o + 1 ≡ suc o = omega arith in ap (bitmaps_below n) e ∙ below_more n o
