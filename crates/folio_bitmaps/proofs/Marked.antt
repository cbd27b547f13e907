-- What the set of a tracker has.
use Rattle.std.proofs.Common.{◌≡◌, ◌⊎◌, ℕ, ◌+◌, ◌-◌, ◌*◌, ◌/◌, ◌%◌, ◌^◌, ◌<◌, Bool, true, false, not, ◌&&◌, ◌||◌, cond, eqb, zero, suc, List, map, length, get_or, set, replicate, inl, inr, refl, sym, ap, ◌∙◌, ⊎_elim, arith}
use Rattle.std.specs.Int.{bit_at}
use Rattle.std.specs.Ordering.{eq_by_cmp}
use Rattle.std.specs.FinSet as sets
use Rattle.std.specs.List.{list_any, range_with_len}
use Rattle.std.proofs.lemmas.Bool.{cases_Bool, cases_eq, and_parts, and_from, leb-true, le-leb, eqb-true, eq-eqb, ne_eqb, cond-true, cond-false, or_left, false_from_ne_true, false≢true}
use Rattle.std.proofs.lemmas.List.{length-replicate, length-set, get_or_default}
use Rattle.std.proofs.lemmas.Nat.Bits.{bit_at-zero, bit_at_set_same, bit_at_set_other, bit_at_clear_same, bit_at_clear_other, shr_and_one}
use Rattle.std.specs.Int.{w8}
use Rattle.std.specs.Prelude.{bit_and, bit_or}
use Rattle.folio_bitmaps.proofs.Bits.{one_bit}
use Rattle.folio_bitmaps.specs.Runs.{Run, IsRun, run_cmp}
use Rattle.ho_base.specs.BitmapCount.{bitmaps_below, bitmap_count}
use Rattle.folio_bitmaps.specs.Bitmaps.{bit_index, AreBitmaps, is_run, is_set, is_marked, all_runs, runs_of}
use Rattle.folio_bitmaps.proofs.Sets.{run_total, run_alone, same_runs, tied_itself, tied_same, tied_other, any_flat_map, any_map, any_range}
use Rattle.folio_bitmaps.proofs.Counts.{bit_index_only, run_below, bit_index_ends, bit_index_count}

zeros : (len i : ℕ) → get_or {A = ℕ} (replicate {A = ℕ} len 0) i 0 ≡ 0
zeros zero i = refl
zeros (suc len) zero = refl
zeros (suc len) (suc i) = zeros len i

cases_Run : (q r : Run) → (q ≡ r) ⊎ (q ≡ r → ⊥)
cases_Run q r =
    ⊎_elim (λ (t : eq_by_cmp run_cmp q r ≡ true). inl (tied_same q r t))
    (λ (t : eq_by_cmp run_cmp q r ≡ false). inr (λ e. false≢true (sym t ∙ tied_itself q r e)))
    (cases_Bool (eq_by_cmp run_cmp q r))

pub is_run-IsRun : (n : ℕ) (r : Run) → is_run n r ≡ true → IsRun n r
is_run-IsRun n r h =
    let outer = and_parts _ _ h in
    let inner = and_parts _ _ outer.0 in
    (leb-true _ _ inner.0, eqb-true _ _ inner.1, leb-true _ _ outer.1)

pub IsRun-is_run : (n : ℕ) (r : Run) → IsRun n r → is_run n r ≡ true
IsRun-is_run n r h = and_from _ _ (and_from _ _ (le-leb _ _ h.0) (eq-eqb _ _ h.1)) (le-leb _ _ h.2)

in_all : (n : ℕ) (r : Run) → IsRun n r → list_any (eq_by_cmp run_cmp r) (all_runs n) ≡ true
unfolding all_runs
in_all n r h =
    let run_of : ℕ → ℕ → Run = λ o p. record { first = p; order = o } in
    any_flat_map (eq_by_cmp run_cmp r) (λ o. map (run_of o) (range_with_len 0 n)) (range_with_len 0 10)
    ∙ any_range (λ o. list_any (eq_by_cmp run_cmp r) (map (run_of o) (range_with_len 0 n))) 0 10 r.order
    (any_map (eq_by_cmp run_cmp r) (run_of r.order) (range_with_len 0 n)
    ∙ any_range (λ p. eq_by_cmp run_cmp r (run_of r.order p)) 0 n r.first (tied_itself r (run_of r.order r.first) refl) (omega arith) (omega (arith, run_below n r h)))
    (omega arith) (omega (arith, h.0))

and_of : (b c : Bool) → (c ≡ true → b ≡ true) → (b && c) ≡ c
and_of b true f = ap (λ x. x && true) (f refl)
and_of true false f = refl
and_of false false f = refl

marked_run : (n : ℕ) (bytes : List ℕ) (r : Run) → is_marked n bytes r ≡ true → is_run n r ≡ true
unfolding is_marked
marked_run n bytes r m = (and_parts _ _ m).0

-- the set has the runs whose bits are set
pub contains-runs_of : (n : ℕ) (bytes : List ℕ) (r : Run) → sets.contains (runs_of n bytes) r ≡ is_marked n bytes r
unfolding runs_of
contains-runs_of n bytes r =
    sets.contains-retain (sets.from_list (all_runs n)) (is_marked n bytes) r (λ x e. ap (is_marked n bytes) (sym (run_alone r x e)))
    ∙ and_of _ _ (λ m. sets.contains-from_list run_total (all_runs n) r ∙ in_all n r (is_run-IsRun n r (marked_run n bytes r m)))

-- a marked run is one, and its bit is set
pub marked-parts : (n : ℕ) (bytes : List ℕ) (r : Run) → is_marked n bytes r ≡ true → IsRun n r × (is_set bytes (bit_index n r) ≡ true)
unfolding is_marked
marked-parts n bytes r m = let both = and_parts _ _ m in (is_run-IsRun n r both.0, both.1)

pub marked-run : (n : ℕ) (bytes : List ℕ) (r : Run) → IsRun n r → is_marked n bytes r ≡ is_set bytes (bit_index n r)
unfolding is_marked
marked-run n bytes r h = ap (λ b. b && is_set bytes (bit_index n r)) (IsRun-is_run n r h)

same_marks : (n : ℕ) (bytes : List ℕ) (q : Run) → is_run n q ≡ true → is_marked n bytes q ≡ is_set bytes (bit_index n q)
same_marks n bytes q h = marked-run n bytes q (is_run-IsRun n q h)

unmarked : (n : ℕ) (bytes : List ℕ) (q : Run) → is_run n q ≡ false → is_marked n bytes q ≡ false
unfolding is_marked
unmarked n bytes q h = ap (λ b. b && is_set bytes (bit_index n q)) h

pub no_mark : (n : ℕ) (bytes : List ℕ) (q : Run) → (IsRun n q → ⊥) → is_marked n bytes q ≡ false
no_mark n bytes q h = unmarked n bytes q (false_from_ne_true _ (λ e. h (is_run-IsRun n q e)))

-- two lists of bytes have the same runs where they have the same bits
pub marked_like : (n : ℕ) (old new : List ℕ) (q : Run) → (IsRun n q → is_set new (bit_index n q) ≡ is_set old (bit_index n q)) → is_marked n new q ≡ is_marked n old q
marked_like n old new q same =
    ⊎_elim (λ (h : is_run n q ≡ true). same_marks n new q h ∙ same (is_run-IsRun n q h) ∙ sym (same_marks n old q h))
    (λ (h : is_run n q ≡ false). unmarked n new q h ∙ sym (unmarked n old q h))
    (cases_Bool (is_run n q))

-- the bit of one run is written
module _ (n : ℕ) (old new : List ℕ) (r : Run) (run : IsRun n r) (k b : ℕ) (at : k ≡ bit_index n r)
    (written : (j : ℕ) → bit_at (get_or new (j / 8) 0) (j % 8) ≡ cond (eqb j k) b (bit_at (get_or old (j / 8) 0) (j % 8))) where
  here : is_marked n new r ≡ eqb b 1
  here = marked-run n new r run ∙ ap (λ x. eqb x 1) (written (bit_index n r) ∙ cond-true _ _ _ (eq-eqb (bit_index n r) k (sym at)))

  elsewhere : (q : Run) → (q ≡ r → ⊥) → is_marked n new q ≡ is_marked n old q
  elsewhere q ne = marked_like n old new q (λ run_q. ap (λ x. eqb x 1) (written (bit_index n q) ∙ cond-false _ _ _ (ne_eqb _ _ (λ e. ne (bit_index_only n q r run_q run (e ∙ at))))))

  pub marked_more : b ≡ 1 → runs_of n new ≡ sets.insert (runs_of n old) r
  marked_more one = same_runs _ _ (λ q. contains-runs_of n new q
      ∙ ⊎_elim (λ (e : q ≡ r). ap (is_marked n new) e ∙ here ∙ eq-eqb b 1 one ∙ sym (or_left _ _ (tied_itself q r e)))
      (λ (ne : q ≡ r → ⊥). elsewhere q ne ∙ sym (contains-runs_of n old q) ∙ sym (ap (λ t. t || sets.contains (runs_of n old) q) (tied_other q r ne)))
      (cases_Run q r)
      ∙ sym (sets.contains-insert run_total (runs_of n old) r q))

  pub marked_less : b ≡ 0 → runs_of n new ≡ sets.remove (runs_of n old) r
  marked_less none = same_runs _ _ (λ q. contains-runs_of n new q
      ∙ ⊎_elim (λ (e : q ≡ r). ap (is_marked n new) e ∙ here ∙ ne_eqb b 1 (λ one. omega arith) ∙ sym (ap (λ t. not t && sets.contains (runs_of n old) q) (tied_itself q r e)))
      (λ (ne : q ≡ r → ⊥). elsewhere q ne ∙ sym (contains-runs_of n old q) ∙ sym (ap (λ t. not t && sets.contains (runs_of n old) q) (tied_other q r ne)))
      (cases_Run q r)
      ∙ sym (sets.contains-remove run_total (runs_of n old) r q))

  -- no bit is set that has no run, still
  pub still_runs : length new ≡ length old → AreBitmaps n old → AreBitmaps n new
  still_runs size h = record {
    size = size ∙ h.size;
    runs = λ o i few in_order is. ⊎_elim
        (λ (e : 4096 * bitmaps_below n o + i ≡ k). bit_index_ends n r run o i in_order (e ∙ at))
        (λ (ne : 4096 * bitmaps_below n o + i ≡ k → ⊥). h.runs o i few in_order (sym (ap (λ x. eqb x 1) (written (4096 * bitmaps_below n o + i) ∙ cond-false _ _ _ (ne_eqb _ _ ne))) ∙ is))
        (cases_eq (4096 * bitmaps_below n o + i) k);
  }

-- no bit is set in zeros
pub none_set : (len k : ℕ) → is_set (replicate len 0) k ≡ false
none_set len k = ap (λ x. eqb (bit_at x (k % 8)) 1) (zeros len (k / 8)) ∙ ap (λ x. eqb x 1) (bit_at-zero (k % 8))

pub none_marked : (n : ℕ) (bytes : List ℕ) → ((k : ℕ) → is_set bytes k ≡ false) → runs_of n bytes ≡ sets.empty
none_marked n bytes none = same_runs _ _ (λ q. contains-runs_of n bytes q
    ∙ ⊎_elim (λ (h : is_run n q ≡ true). same_marks n bytes q h ∙ none (bit_index n q)) (λ (h : is_run n q ≡ false). unmarked n bytes q h) (cases_Bool (is_run n q))
    ∙ sym (sets.contains-empty run_cmp q))

pub zero_bitmaps : (n : ℕ) (bytes : List ℕ) (len : ℕ) → bytes ≡ replicate len 0 → len ≡ 512 * bitmap_count n → AreBitmaps n bytes
zero_bitmaps n bytes len e size = record {
  size = ap length e ∙ length-replicate len 0 ∙ size;
  runs = λ o i few in_order is. absurd (false≢true (sym (ap (λ (l : List ℕ). is_set l (4096 * bitmaps_below n o + i)) e ∙ none_set len (4096 * bitmaps_below n o + i)) ∙ is));
}

pub zero_runs : (n : ℕ) (bytes : List ℕ) (len : ℕ) → bytes ≡ replicate len 0 → runs_of n bytes ≡ sets.empty
zero_runs n bytes len e = ap (runs_of n) e ∙ none_marked n (replicate len 0) (none_set len)

-- the bit of a run is set or cleared in its byte v
module _ (n : ℕ) (bytes : List ℕ) (r : Run) (k v : ℕ) (h : AreBitmaps n bytes) (run : IsRun n r) (at : k ≡ bit_index n r) where
  pub byte_below : k / 8 < length bytes
  byte_below = omega (arith, bit_index_count n r run, h.size)

  module _ (seen : v ≡ get_or bytes (k / 8) v) where
    was : v ≡ get_or bytes (k / 8) 0
    was = seen ∙ get_or_default bytes (k / 8) v 0 byte_below

    low : k % 8 < 8
    low = omega arith

    abbrev with_bit : ℕ
    with_bit = bit_or v (1 * 2 ^ (k % 8) % 256)

    abbrev without_bit : ℕ
    without_bit = bit_and v (255 - 1 * 2 ^ (k % 8) % 256)

    bit_is_set : (j : ℕ) → bit_at (get_or (set bytes (k / 8) with_bit) (j / 8) 0) (j % 8) ≡ cond (eqb j k) 1 (bit_at (get_or bytes (j / 8) 0) (j % 8))
    bit_is_set = one_bit bytes k with_bit 1 byte_below (bit_at_set_same w8 v (k % 8) low)
        (λ i lt ne. bit_at_set_other w8 v (k % 8) low i ne ∙ ap (λ x. bit_at x i) was)

    bit_is_clear : (j : ℕ) → bit_at (get_or (set bytes (k / 8) without_bit) (j / 8) 0) (j % 8) ≡ cond (eqb j k) 0 (bit_at (get_or bytes (j / 8) 0) (j % 8))
    bit_is_clear = one_bit bytes k without_bit 0 byte_below (bit_at_clear_same w8 v (k % 8) low)
        (λ i lt ne. bit_at_clear_other w8 v (k % 8) low i lt ne ∙ ap (λ x. bit_at x i) was)

    pub set_runs : runs_of n (set bytes (k / 8) with_bit) ≡ sets.insert (runs_of n bytes) r
    set_runs = marked_more n bytes (set bytes (k / 8) with_bit) r run k 1 at bit_is_set refl

    pub clear_runs : runs_of n (set bytes (k / 8) without_bit) ≡ sets.remove (runs_of n bytes) r
    clear_runs = marked_less n bytes (set bytes (k / 8) without_bit) r run k 0 at bit_is_clear refl

    pub set_bitmaps : AreBitmaps n (set bytes (k / 8) with_bit)
    set_bitmaps = still_runs n bytes (set bytes (k / 8) with_bit) r run k 1 at bit_is_set (length-set bytes (k / 8) with_bit) h

    pub clear_bitmaps : AreBitmaps n (set bytes (k / 8) without_bit)
    clear_bitmaps = still_runs n bytes (set bytes (k / 8) without_bit) r run k 0 at bit_is_clear (length-set bytes (k / 8) without_bit) h

-- a run that is in the set is one
pub member_run : (n : ℕ) (bytes : List ℕ) (r : Run) → sets.contains (runs_of n bytes) r ≡ true → IsRun n r
member_run n bytes r e = (marked-parts n bytes r (sym (contains-runs_of n bytes r) ∙ e)).0

pub no_member : (n : ℕ) (bytes : List ℕ) (r : Run) → (IsRun n r → ⊥) → false ≡ sets.contains (runs_of n bytes) r
no_member n bytes r h = sym (contains-runs_of n bytes r ∙ no_mark n bytes r h)

-- what is read of a run's bit
pub has_bit : (n : ℕ) (bytes : List ℕ) (r : Run) (k v : ℕ) → AreBitmaps n bytes → IsRun n r → k ≡ bit_index n r → v ≡ get_or bytes (k / 8) v → eqb (bit_and (v / 2 ^ (k % 8)) 1) 1 ≡ sets.contains (runs_of n bytes) r
has_bit n bytes r k v h run at seen =
    ap (λ x. eqb x 1) (shr_and_one v (k % 8) ∙ ap (λ x. bit_at x (k % 8)) (was n bytes r k v h run at seen))
    ∙ ap (λ j. is_set bytes j) at ∙ sym (marked-run n bytes r run) ∙ sym (contains-runs_of n bytes r)
