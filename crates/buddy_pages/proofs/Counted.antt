-- How a map's number of blocks changes with one frame's number.
use Rattle.std.proofs.Common.{◌≡◌, ◌≢◌, ℕ, ◌+◌, ◌-◌, ◌^◌, ◌<◌, ◌≤◌, cond, eqb, List, length, get_or, set, replicate, refl, sym, ◌∙◌, ap, subst, ⊎_elim, arith}
use Rattle.std.proofs.lemmas.Bool.{eq-eqb, ne_eqb, cases_eq}
use Rattle.std.proofs.lemmas.List.{length-set, length-replicate, get_or-replicate, get_or-set_same, get_or-set_other}
use Rattle.std.proofs.lemmas.List.Sums.{sum_by-set, count_by-le-length}
use Rattle.buddy_pages.specs.Blocks.{block_count, IsCounted}
use Rattle.buddy_pages.proofs.Totals.{total_none}
use Rattle.buddy_pages.proofs.Runs.{bit, bit_true, bit_false}
use Rattle.buddy_pages.proofs.Halves.{blocks_total}

pub count_set : (tags : List ℕ) (q t o : ℕ) → q < length tags → block_count (set tags q t) o + bit (eqb (get_or tags q 0) (o + 1)) ≡ block_count tags o + bit (eqb t (o + 1))
unfolding block_count bit
count_set tags q t o lt = sum_by-set (λ t. cond (eqb t (o + 1)) 1 0) tags q t 0 lt

pub count_le : (tags : List ℕ) (o : ℕ) → block_count tags o ≤ length tags
unfolding block_count
count_le tags o = count_by-le-length (λ t. eqb t (o + 1)) tags

-- one more block where none begins
pub count_put_same : (tags : List ℕ) (q o : ℕ) → q < length tags → get_or tags q 0 ≡ 0 → block_count (set tags q (o + 1)) o ≡ block_count tags o + 1
count_put_same tags q o lt e =
    let s = count_set tags q (o + 1) o lt in
    let a : bit (eqb (get_or tags q 0) (o + 1)) ≡ 0 = bit_false (eqb (get_or tags q 0) (o + 1)) (ne_eqb (get_or tags q 0) (o + 1) (λ h. omega arith)) in
    let b : bit (eqb (o + 1) (o + 1)) ≡ 1 = bit_true (eqb (o + 1) (o + 1)) (eq-eqb (o + 1) (o + 1) refl) in
    omega arith

pub count_put_other : (tags : List ℕ) (q o r : ℕ) → q < length tags → get_or tags q 0 ≡ 0 → r ≢ o → block_count (set tags q (o + 1)) r ≡ block_count tags r
count_put_other tags q o r lt e ne =
    let s = count_set tags q (o + 1) r lt in
    let a : bit (eqb (get_or tags q 0) (r + 1)) ≡ 0 = bit_false (eqb (get_or tags q 0) (r + 1)) (ne_eqb (get_or tags q 0) (r + 1) (λ h. omega arith)) in
    let b : bit (eqb (o + 1) (r + 1)) ≡ 0 = bit_false (eqb (o + 1) (r + 1)) (ne_eqb (o + 1) (r + 1) (λ h. omega arith)) in
    omega arith

-- one block less where one begins
pub count_clear_same : (tags : List ℕ) (q o : ℕ) → q < length tags → get_or tags q 0 ≡ o + 1 → block_count (set tags q 0) o + 1 ≡ block_count tags o
count_clear_same tags q o lt e =
    let s = count_set tags q 0 o lt in
    let a : bit (eqb (get_or tags q 0) (o + 1)) ≡ 1 = bit_true (eqb (get_or tags q 0) (o + 1)) (eq-eqb (get_or tags q 0) (o + 1) e) in
    let b : bit (eqb 0 (o + 1)) ≡ 0 = bit_false (eqb 0 (o + 1)) (ne_eqb 0 (o + 1) (λ h. omega arith)) in
    omega arith

pub count_clear_other : (tags : List ℕ) (q o r : ℕ) → q < length tags → get_or tags q 0 ≡ o + 1 → r ≢ o → block_count (set tags q 0) r ≡ block_count tags r
count_clear_other tags q o r lt e ne =
    let s = count_set tags q 0 r lt in
    let a : bit (eqb (get_or tags q 0) (r + 1)) ≡ 0 = bit_false (eqb (get_or tags q 0) (r + 1)) (ne_eqb (get_or tags q 0) (r + 1) (λ h. omega arith)) in
    let b : bit (eqb 0 (r + 1)) ≡ 0 = bit_false (eqb 0 (r + 1)) (ne_eqb 0 (r + 1) (λ h. omega arith)) in
    omega arith

none_at : (n p : ℕ) → p < n → get_or (replicate {A = ℕ} n 0) p 0 ≡ 0
none_at n p l = get_or-replicate n p 0 0 l

-- no block at all
pub count_none : (n o : ℕ) → block_count (replicate n 0) o ≡ 0
count_none n o =
    blocks_total (replicate n 0) o
    ∙ total_none (λ p. bit (eqb (get_or (replicate n 0) p 0) (o + 1))) (length (replicate n 0))
    (λ p l. bit_false (eqb (get_or (replicate n 0) p 0) (o + 1))
    (ne_eqb (get_or (replicate n 0) p 0) (o + 1) (λ h. let z : 0 ≡ o + 1 = sym (none_at n p (omega (arith, length-replicate {A = ℕ} n 0))) ∙ h in omega arith)))

pub counted_none : (n : ℕ) → n < 2 ^ 32 → IsCounted (replicate n 0) (replicate 10 0)
counted_none n h = record {
  orders = length-replicate {A = ℕ} 10 0;
  counts = λ o l. get_or-replicate 10 o 0 0 (omega arith) ∙ sym (count_none n o);
  few = omega (arith, length-replicate {A = ℕ} n 0);
}

-- the count of each order but one stays
counts_but : (blocks : List ℕ) (o r v : ℕ) → r ≢ o → get_or (set blocks o v) r 0 ≡ get_or blocks r 0
counts_but blocks o r v ne = get_or-set_other blocks o r v 0 ne

pub counted_put : (tags blocks : List ℕ) (q o : ℕ) → IsCounted tags blocks → q < length tags → o ≤ 9 → get_or tags q 0 ≡ 0 → IsCounted (set tags q (o + 1)) (set blocks o (get_or blocks o 0 + 1))
counted_put tags blocks q o k lt le e = record {
  orders = length-set blocks o (get_or blocks o 0 + 1) ∙ k.orders;
  counts = λ r l.
      ⊎_elim
      (λ (same : r ≡ o).
      subst (λ (z : ℕ). get_or (set blocks o (get_or blocks o 0 + 1)) z 0 ≡ block_count (set tags q (o + 1)) z) (sym same)
      (get_or-set_same blocks o (get_or blocks o 0 + 1) 0 (omega (arith, k.orders))
      ∙ ap (λ z. z + 1) (k.counts o le) ∙ sym (count_put_same tags q o lt e)))
      (λ (other : r ≢ o). counts_but blocks o r (get_or blocks o 0 + 1) other ∙ k.counts r l ∙ sym (count_put_other tags q o r lt e other))
      (cases_eq r o);
  few = omega (arith, length-set tags q (o + 1), k.few);
}

pub counted_clear : (tags blocks : List ℕ) (q o : ℕ) → IsCounted tags blocks → q < length tags → o ≤ 9 → get_or tags q 0 ≡ o + 1 → IsCounted (set tags q 0) (set blocks o (get_or blocks o 0 - 1))
counted_clear tags blocks q o k lt le e = record {
  orders = length-set blocks o (get_or blocks o 0 - 1) ∙ k.orders;
  counts = λ r l.
      ⊎_elim
      (λ (same : r ≡ o).
      let one : block_count (set tags q 0) o + 1 ≡ block_count tags o = count_clear_same tags q o lt e in
      let was : get_or blocks o 0 ≡ block_count tags o = k.counts o le in
      subst (λ (z : ℕ). get_or (set blocks o (get_or blocks o 0 - 1)) z 0 ≡ block_count (set tags q 0) z) (sym same)
      (get_or-set_same blocks o (get_or blocks o 0 - 1) 0 (omega (arith, k.orders)) ∙ omega arith))
      (λ (other : r ≢ o). counts_but blocks o r (get_or blocks o 0 - 1) other ∙ k.counts r l ∙ sym (count_clear_other tags q o r lt e other))
      (cases_eq r o);
  few = omega (arith, length-set tags q 0, k.few);
}

-- the counts' bounds, as the code needs them
pub count_put_fits : (tags blocks : List ℕ) (q o : ℕ) → IsCounted tags blocks → q < length tags → o ≤ 9 → get_or tags q 0 ≡ 0 → get_or blocks o 0 + 1 < 2 ^ 32
count_put_fits tags blocks q o k lt le e =
    let most : block_count (set tags q (o + 1)) o ≤ length (set tags q (o + 1)) = count_le (set tags q (o + 1)) o in
    omega (arith, k.counts o le, count_put_same tags q o lt e, length-set tags q (o + 1), k.few)

pub count_clear_pos : (tags blocks : List ℕ) (q o : ℕ) → IsCounted tags blocks → q < length tags → o ≤ 9 → get_or tags q 0 ≡ o + 1 → 1 ≤ get_or blocks o 0
count_clear_pos tags blocks q o k lt le e = omega (arith, k.counts o le, count_clear_same tags q o lt e)
