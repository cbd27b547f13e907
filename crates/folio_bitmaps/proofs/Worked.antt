-- The bytes of a worked set's bitmaps.
use Rattle.std.proofs.Common.{◌≡◌, ◌≢◌, ◌⊎◌, ℕ, ◌+◌, ◌*◌, ◌/◌, ◌%◌, ◌^◌, ◌<◌, ◌≤◌, Bool, true, false, cond, eqb, ◌&&◌, get_or, sym, ap, ◌∙◌, inl, inr, ⊎_elim, arith}
use Rattle.std.specs.Int.{bit_at}
use Rattle.std.specs.FinSet as sets
use Rattle.std.proofs.lemmas.Bool.{cases_Bool, cases_lt, cases_eq, and_parts, and_from, eqb-true, eq-eqb, cond-true, cond-false, or_cases, or_left, or_right, false≢true}
use Rattle.std.proofs.lemmas.Nat.Bits.{bit_at-lt, bit_at-zero, bit_at-pow_same, bit_at-pow_other, same_from_bits_below}
use Rattle.folio_bitmaps.specs.Runs.{Run, run_cmp}
use Rattle.ho_base.specs.BitmapCount.{cover}
use Rattle.folio_bitmaps.specs.Chunks.{Element, run_of}
use Rattle.folio_bitmaps.specs.Written.{IsBitmap}
use Rattle.folio_bitmaps.specs.Examples.{two_runs, two_runs_byte}
use Rattle.folio_bitmaps.proofs.Sets.{run_total, tied_same, tied_itself}

abbrev nine : Run
nine = record { first = 9; order = 0 }

abbrev sixteen : Run
sixteen = record { first = 16; order = 2 }

two_members : (q : Run) → sets.contains two_runs q ≡ true → (q ≡ sixteen) ⊎ (q ≡ nine)
two_members q t =
    ⊎_elim (λ a. inl (tied_same q sixteen a))
    (λ (b : sets.contains (sets.insert sets.empty nine) q ≡ true). ⊎_elim (λ a. inr (tied_same q nine a)) (λ (e : sets.contains sets.empty q ≡ true). absurd (false≢true (sym (sets.contains-empty run_cmp q) ∙ e)))
    (or_cases _ _ (sym (sets.contains-insert run_total sets.empty nine q) ∙ b)))
    (or_cases _ _ (sym (sets.contains-insert run_total (sets.insert sets.empty nine) sixteen q) ∙ t))

two_sixteen : (q : Run) → q ≡ sixteen → sets.contains two_runs q ≡ true
two_sixteen q e = sets.contains-insert run_total (sets.insert sets.empty nine) sixteen q ∙ or_left _ _ (tied_itself q sixteen e)

two_nine : (q : Run) → q ≡ nine → sets.contains two_runs q ≡ true
two_nine q e = sets.contains-insert run_total (sets.insert sets.empty nine) sixteen q ∙ or_right _ _ (sets.contains-insert run_total sets.empty nine q ∙ or_left _ _ (tied_itself q nine e))

-- a bit of a byte is one exactly where its run is in the set
module _ (n t j : ℕ) (e : Element) (is : IsBitmap n two_runs t e) (few : j < 512) where
  byte : ℕ
  byte = get_or e.bits j 0

  bit_is : (i : ℕ) → i < 8 → eqb (bit_at (get_or e.bits j 0) i) 1 ≡ sets.contains two_runs (run_of e (8 * j + i))
  bit_is i lt =
      let place : (8 * j + i) / 8 ≡ j = omega arith in
      let bit : (8 * j + i) % 8 ≡ i = omega arith in
      (λ k. eqb (bit_at (get_or e.bits (sym place k) 0) (sym bit k)) 1) ∙ is.bits (8 * j + i) (omega arith)

  bit_on : (i : ℕ) → i < 8 → sets.contains two_runs (run_of e (8 * j + i)) ≡ true → bit_at (get_or e.bits j 0) i ≡ 1
  bit_on i lt t = eqb-true _ _ (bit_is i lt ∙ t)

  bit_off : (i : ℕ) → i < 8 → (sets.contains two_runs (run_of e (8 * j + i)) ≡ true → ⊥) → bit_at (get_or e.bits j 0) i ≡ 0
  bit_off i lt out = small (bit_at (get_or e.bits j 0) i) (bit_at-lt (get_or e.bits j 0) i) (λ one. out (sym (bit_is i lt) ∙ eq-eqb _ _ one))
    where
      small : (b : ℕ) → b < 2 → (b ≡ 1 → ⊥) → b ≡ 0
      small b lt ne = ⊎_elim (λ (l : b < 1). omega arith) (λ (g : 1 ≤ b). absurd (ne (omega arith))) (cases_lt b 1)

  -- where the runs' bits are
  at_nine : (i : ℕ) → i < 8 → run_of e (8 * j + i) ≡ nine → (e.order ≡ 0) × (e.base ≡ 0) × (j ≡ 1) × (i ≡ 1)
  at_nine i lt same =
      let o : e.order ≡ 0 = ap (λ (r : Run). r.order) same in
      let firsts : e.base + (8 * j + i) * 2 ^ e.order ≡ 9 = ap (λ (r : Run). r.first) same in
      let scale : (8 * j + i) * 2 ^ e.order ≡ 8 * j + i = ap (λ (x : ℕ). (8 * j + i) * 2 ^ x) o ∙ times_one (8 * j + i) in
      let aligned : e.base % 4096 ≡ 0 = sym (ap (λ (x : ℕ). e.base % cover x) o) ∙ is.aligned in
      let rest = solve e.base j i aligned (omega arith) lt in
      (o, rest.0, rest.1, rest.2)
    where
      times_one : (x : ℕ) → x * 1 ≡ x
      times_one x = omega arith

      solve : (b j i : ℕ) → b % 4096 ≡ 0 → b + (8 * j + i) ≡ 9 → i < 8 → (b ≡ 0) × (j ≡ 1) × (i ≡ 1)
      solve b j i h e lt = (omega arith, omega arith, omega arith)

  at_sixteen : (i : ℕ) → i < 8 → run_of e (8 * j + i) ≡ sixteen → (e.order ≡ 2) × (e.base ≡ 0) × (j ≡ 0) × (i ≡ 4)
  at_sixteen i lt same =
      let o : e.order ≡ 2 = ap (λ (r : Run). r.order) same in
      let firsts : e.base + (8 * j + i) * 2 ^ e.order ≡ 16 = ap (λ (r : Run). r.first) same in
      let scale : (8 * j + i) * 2 ^ e.order ≡ (8 * j + i) * 4 = ap (λ (x : ℕ). (8 * j + i) * 2 ^ x) o in
      let aligned : e.base % 16384 ≡ 0 = sym (ap (λ (x : ℕ). e.base % cover x) o) ∙ is.aligned in
      let rest = solve e.base j i aligned (omega arith) lt in
      (o, rest.0, rest.1, rest.2)
    where
      solve : (b j i : ℕ) → b % 16384 ≡ 0 → b + (8 * j + i) * 4 ≡ 16 → i < 8 → (b ≡ 0) × (j ≡ 0) × (i ≡ 4)
      solve b j i h e lt = (omega arith, omega arith, omega arith)

  is_nine : e.order ≡ 0 → e.base ≡ 0 → j ≡ 1 → (i : ℕ) → i ≡ 1 → run_of e (8 * j + i) ≡ nine
  is_nine o b k i one = (λ x. record { first = b x + (8 * k x + one x) * 2 ^ o x; order = o x })

  is_sixteen : e.order ≡ 2 → e.base ≡ 0 → j ≡ 0 → (i : ℕ) → i ≡ 4 → run_of e (8 * j + i) ≡ sixteen
  is_sixteen o b k i four = (λ x. record { first = b x + (8 * k x + four x) * 2 ^ o x; order = o x })

  -- a byte with one bit
  one_of : (k : ℕ) → get_or e.bits j 0 < 256 → 2 ^ k < 256 → ((i : ℕ) → i < 8 → i ≡ k → sets.contains two_runs (run_of e (8 * j + i)) ≡ true)
      → ((i : ℕ) → i < 8 → i ≢ k → sets.contains two_runs (run_of e (8 * j + i)) ≡ true → ⊥) → get_or e.bits j 0 ≡ 2 ^ k
  one_of k lt fits on off = same_from_bits_below 8 (get_or e.bits j 0) (2 ^ k) lt fits (λ i small.
      ⊎_elim (λ (same : i ≡ k). bit_on i small (on i small same) ∙ sym (ap (λ (x : ℕ). bit_at (2 ^ k) x) same ∙ bit_at-pow_same k))
      (λ (ne : i ≡ k → ⊥). bit_off i small (off i small ne) ∙ sym (bit_at-pow_other k i ne))
      (cases_eq i k))

  none_of : get_or e.bits j 0 < 256 → ((i : ℕ) → i < 8 → sets.contains two_runs (run_of e (8 * j + i)) ≡ true → ⊥) → get_or e.bits j 0 ≡ 0
  none_of lt off = same_from_bits_below 8 (get_or e.bits j 0) 0 lt (omega arith) (λ i small. bit_off i small (off i small) ∙ sym (bit_at-zero i))

  abbrev first_test : Bool
  first_test = eqb e.order 0 && eqb e.base 0 && eqb j 1

  abbrev second_test : Bool
  second_test = eqb e.order 2 && eqb e.base 0 && eqb j 0

  pub two_bytes : get_or e.bits j 0 < 256 → get_or e.bits j 0 ≡ two_runs_byte e.order e.base j
  two_bytes lt =
      ⊎_elim (λ (a : first_test ≡ true).
      let outer = and_parts (eqb e.order 0 && eqb e.base 0) (eqb j 1) a in
      let inner = and_parts (eqb e.order 0) (eqb e.base 0) outer.0 in
      one_of 1 lt (omega arith) (λ i small same. two_nine (run_of e (8 * j + i)) (is_nine (eqb-true e.order 0 inner.0) (eqb-true e.base 0 inner.1) (eqb-true j 1 outer.1) i same))
      (λ i small ne m. ⊎_elim (λ (s : run_of e (8 * j + i) ≡ sixteen). omega (arith, (at_sixteen i small s).0, eqb-true e.order 0 inner.0)) (λ (s : run_of e (8 * j + i) ≡ nine). ne ((at_nine i small s).3)) (two_members (run_of e (8 * j + i)) m))
      ∙ sym (cond-true first_test 2 (cond second_test 16 0) a))
      (λ (na : first_test ≡ false). ⊎_elim
      (λ (b : second_test ≡ true).
      let outer = and_parts (eqb e.order 2 && eqb e.base 0) (eqb j 0) b in
      let inner = and_parts (eqb e.order 2) (eqb e.base 0) outer.0 in
      one_of 4 lt (omega arith) (λ i small same. two_sixteen (run_of e (8 * j + i)) (is_sixteen (eqb-true e.order 2 inner.0) (eqb-true e.base 0 inner.1) (eqb-true j 0 outer.1) i same))
      (λ i small ne m. ⊎_elim (λ (s : run_of e (8 * j + i) ≡ sixteen). ne ((at_sixteen i small s).3)) (λ (s : run_of e (8 * j + i) ≡ nine). omega (arith, (at_nine i small s).0, eqb-true e.order 2 inner.0)) (two_members (run_of e (8 * j + i)) m))
      ∙ sym (cond-false first_test 2 (cond second_test 16 0) na ∙ cond-true second_test 16 0 b))
      (λ (nb : second_test ≡ false).
      none_of lt (λ i small m. ⊎_elim
      (λ (s : run_of e (8 * j + i) ≡ sixteen). let at = at_sixteen i small s in absurd (false≢true (sym nb ∙ and_from _ _ (and_from _ _ (eq-eqb e.order 2 at.0) (eq-eqb e.base 0 at.1)) (eq-eqb j 0 at.2))))
      (λ (s : run_of e (8 * j + i) ≡ nine). let at = at_nine i small s in absurd (false≢true (sym na ∙ and_from _ _ (and_from _ _ (eq-eqb e.order 0 at.0) (eq-eqb e.base 0 at.1)) (eq-eqb j 1 at.2))))
      (two_members (run_of e (8 * j + i)) m))
      ∙ sym (cond-false first_test 2 (cond second_test 16 0) na ∙ cond-false second_test 16 0 nb))
      (cases_Bool second_test))
      (cases_Bool first_test)
