-- Which bits are set once elements were taken into bitmaps of zeros.
use Rattle.std.proofs.Common.{◌≡◌, ◌≢◌, ◌⊎◌, ℕ, zero, suc, ◌+◌, ◌-◌, ◌*◌, ◌/◌, ◌%◌, ◌^◌, ◌<◌, ◌≤◌, true, eqb, List, [], ◌∷◌, length, get_or, replicate, refl, sym, ap, subst, ◌∙◌, inl, inr, ⊎_elim, arith}
use Rattle.std.specs.Int.{bit_at}
use Rattle.std.specs.FinSet as sets
use Rattle.std.specs.List.{All, Contains}
use Rattle.std.proofs.lemmas.Bool.{cases_eq, cases_order, false≢true}
use Rattle.std.proofs.lemmas.List.Elements.{All-head, All-tail, All-contains}
use Rattle.phys_frames.proofs.Homes.{run_before, run_within, run_after, length_run}
use Rattle.folio_bitmaps.specs.Runs.{Run, IsRun}
use Rattle.ho_base.specs.BitmapCount.{cover, bitmaps_of, bitmaps_below, bitmap_count}
use Rattle.folio_bitmaps.specs.Bitmaps.{bit_index, is_set, runs_of, AreBitmaps}
use Rattle.folio_bitmaps.specs.Chunks.{Element, IsElement, run_of, number_of}
use Rattle.folio_bitmaps.specs.Reading.{Follow, put, puts}
use Rattle.folio_bitmaps.specs.Chain.{IsMarkedIn}
use Rattle.folio_bitmaps.proofs.Counts.{below_mono, below_more, bit_index_only}
use Rattle.folio_bitmaps.proofs.Keys.{base_is, number_within, number_count, bit_index_of, run_is}
use Rattle.folio_bitmaps.proofs.Marked.{contains-runs_of, marked-run, marked-parts, none_set}
use Rattle.folio_bitmaps.proofs.Follows.{follow_elements}

-- each element has 512 bytes
abbrev pub Sized : List Element → Type 0
Sized es = All (λ e. length e.bits ≡ 512) es

-- a bit after a bitmap was put
module _ (n : ℕ) (bytes : List ℕ) (e : Element) (size : length bytes ≡ 512 * bitmap_count n) (is : IsElement n e) (sized : length e.bits ≡ 512) where
  fits : 512 * number_of n e + 512 ≤ length bytes
  fits = omega (arith, number_count n e is.small is.below)

  pub length_put : length (put n bytes e) ≡ 512 * bitmap_count n
  length_put = length_run bytes (512 * number_of n e) 512 e.bits sized fits 0 0 ∙ size

  pub put_other : (k : ℕ) → k / 4096 ≢ number_of n e → is_set (put n bytes e) k ≡ is_set bytes k
  put_other k ne = ap (λ (x : ℕ). eqb (bit_at x (k % 8)) 1)
      (⊎_elim (λ (same : k / 4096 ≡ number_of n e). absurd (ne same))
      (λ (o : (k / 4096 < number_of n e) ⊎ (number_of n e < k / 4096)). ⊎_elim
      (λ (l : k / 4096 < number_of n e). run_before bytes (512 * number_of n e) 512 e.bits sized fits (k / 8) 0 (omega arith))
      (λ (g : number_of n e < k / 4096). run_after bytes (512 * number_of n e) 512 e.bits sized fits (k / 8) 0 (omega arith))
      o)
      (cases_order (k / 4096) (number_of n e)))

  pub put_same : (k : ℕ) → k / 4096 ≡ number_of n e → is_set (put n bytes e) k ≡ is_set e.bits (k % 4096)
  put_same k same =
      let at : k / 8 - 512 * number_of n e ≡ k % 4096 / 8 = omega arith in
      let bit : k % 8 ≡ k % 4096 % 8 = omega arith in
      ap (λ (x : ℕ). eqb (bit_at x (k % 8)) 1) (run_within bytes (512 * number_of n e) 512 e.bits sized fits (k / 8) 0 (omega arith) (omega arith))
      ∙ (λ i. eqb (bit_at (get_or e.bits (at i) 0) (bit i)) 1)

module _ (n : ℕ) where
  pub length_puts : (bytes : List ℕ) (least : ℕ) (es : List Element) → length bytes ≡ 512 * bitmap_count n → Follow n least es → Sized es → length (puts n bytes es) ≡ 512 * bitmap_count n
  length_puts bytes least [] size h s = size
  length_puts bytes least (e ∷ es) size h s =
      length_puts (put n bytes e) (number_of n e + 1) es (length_put n bytes e size h.0.is (All-head (λ (f : Element). length f.bits ≡ 512) e es s)) h.1 (All-tail (λ (f : Element). length f.bits ≡ 512) e es s)

  -- bits of earlier bitmaps stay
  pub puts_earlier : (bytes : List ℕ) (least : ℕ) (es : List Element) (k : ℕ) → length bytes ≡ 512 * bitmap_count n → Follow n least es → Sized es → k / 4096 < least → is_set (puts n bytes es) k ≡ is_set bytes k
  puts_earlier bytes least [] k size h s lt = refl
  puts_earlier bytes least (e ∷ es) k size h s lt =
      let sized : length e.bits ≡ 512 = All-head (λ (f : Element). length f.bits ≡ 512) e es s in
      let later : least ≤ number_of n e = h.0.later in
      puts_earlier (put n bytes e) (number_of n e + 1) es k (length_put n bytes e size h.0.is sized) h.1 (All-tail (λ (f : Element). length f.bits ≡ 512) e es s) (omega arith)
      ∙ put_other n bytes e size h.0.is sized k (λ same. omega arith)

  -- a set bit was set, or is one of an element
  pub record FromElement (es : List Element) (k : ℕ) : Type 0 where
    pub element : Element
    pub there : Contains es element
    pub number : number_of n element ≡ k / 4096
    pub is_one : is_set element.bits (k % 4096) ≡ true

  contains_tail : (e f : Element) (es : List Element) → Contains es f → Contains (e ∷ es) f
  contains_tail e f es h = (suc h.0, omega (arith, h.1), h.2)

  pub puts_from : (bytes : List ℕ) (least : ℕ) (es : List Element) (k : ℕ) → length bytes ≡ 512 * bitmap_count n → Follow n least es → Sized es → is_set (puts n bytes es) k ≡ true
      → (is_set bytes k ≡ true) ⊎ FromElement es k
  puts_from bytes least [] k size h s t = inl t
  puts_from bytes least (e ∷ es) k size h s t =
      let sized : length e.bits ≡ 512 = All-head (λ (f : Element). length f.bits ≡ 512) e es s in
      let tails : Sized es = All-tail (λ (f : Element). length f.bits ≡ 512) e es s in
      let long = length_put n bytes e size h.0.is sized in
      ⊎_elim (λ (same : k / 4096 ≡ number_of n e).
      inr (record {
        element = e;
        there = (0, omega arith, refl);
        number = sym same;
        is_one = sym (puts_earlier (put n bytes e) (number_of n e + 1) es k long h.1 tails (omega arith) ∙ put_same n bytes e size h.0.is sized k same) ∙ t;
      }))
      (λ (ne : k / 4096 ≡ number_of n e → ⊥).
      ⊎_elim (λ (old : is_set (put n bytes e) k ≡ true). inl (sym (put_other n bytes e size h.0.is sized k ne) ∙ old))
      (λ (f : FromElement es k). inr (record { element = f.element; there = contains_tail e f.element es f.there; number = f.number; is_one = f.is_one }))
      (puts_from (put n bytes e) (number_of n e + 1) es k long h.1 tails t))
      (cases_eq (k / 4096) (number_of n e))

  -- the bits of an element are there
  pub puts_has : (bytes : List ℕ) (least : ℕ) (es : List Element) (i : ℕ) (f : Element) (k : ℕ) → length bytes ≡ 512 * bitmap_count n → Follow n least es → Sized es
      → i < length es → get_or es i f ≡ f → k / 4096 ≡ number_of n f → is_set f.bits (k % 4096) ≡ true → is_set (puts n bytes es) k ≡ true
  puts_has bytes least [] i f k size h s lt at number t = absurd (omega arith)
  puts_has bytes least (e ∷ es) zero f k size h s lt at number t =
      let sized : length e.bits ≡ 512 = All-head (λ (g : Element). length g.bits ≡ 512) e es s in
      let same : k / 4096 ≡ number_of n e = number ∙ ap (number_of n) (sym at) in
      puts_earlier (put n bytes e) (number_of n e + 1) es k (length_put n bytes e size h.0.is sized) h.1 (All-tail (λ (g : Element). length g.bits ≡ 512) e es s) (omega arith)
      ∙ put_same n bytes e size h.0.is sized k same ∙ ap (λ (g : Element). is_set g.bits (k % 4096)) at ∙ t
  puts_has bytes least (e ∷ es) (suc i) f k size h s lt at number t =
      let sized : length e.bits ≡ 512 = All-head (λ (g : Element). length g.bits ≡ 512) e es s in
      puts_has (put n bytes e) (number_of n e + 1) es i f k (length_put n bytes e size h.0.is sized) h.1 (All-tail (λ (g : Element). length g.bits ≡ 512) e es s) (omega arith) at number t

-- the bitmaps once all elements were taken into zeros
module _ (n : ℕ) (zeros bytes : List ℕ) (es : List Element) (len : ℕ) (blank : zeros ≡ replicate len 0) (size : length zeros ≡ 512 * bitmap_count n)
    (follow : Follow n 0 es) (sized : Sized es) (is : bytes ≡ puts n zeros es) where
  from_zeros : (k : ℕ) → is_set bytes k ≡ true → FromElement n es k
  from_zeros k t =
      ⊎_elim (λ (old : is_set zeros k ≡ true). absurd (false≢true (sym (ap (λ (l : List ℕ). is_set l k) blank ∙ none_set len k) ∙ old)))
      (λ (f : FromElement n es k). f)
      (puts_from n zeros 0 es k size follow sized (ap (λ (l : List ℕ). is_set l k) (sym is) ∙ t))

  element_is : (f : Element) → Contains es f → IsElement n f
  element_is f h = All-contains (IsElement n) es f (follow_elements n 0 es follow) h

  -- a bit of an order is one of an element of that order
  ends : (o i : ℕ) → o ≤ 9 → i < 4096 * bitmaps_of n o → is_set bytes (4096 * bitmaps_below n o + i) ≡ true → (i + 1) * 2 ^ o ≤ n
  ends o i small lt t =
      let f = from_zeros (4096 * bitmaps_below n o + i) t in
      let e : Element = f.element in
      let rules : IsElement n e = element_is e f.there in
      let number : number_of n e ≡ bitmaps_below n o + i / 4096 = f.number ∙ quotient (bitmaps_below n o) i in
      let rest : (4096 * bitmaps_below n o + i) % 4096 ≡ i % 4096 = remainder (bitmaps_below n o) i in
      ⊎_elim (λ (same : e.order ≡ o).
      let at : e.base / cover e.order ≡ i / 4096 = omega (arith, ap (bitmaps_below n) same) in
      let base : e.base ≡ i / 4096 * cover o = base_is e rules.aligned ∙ (λ j. at j * cover (same j)) in
      let fits : e.base + (i % 4096) * 2 ^ o + 2 ^ o ≤ n = subst (λ (p : ℕ). e.base + (i % 4096) * 2 ^ p + 2 ^ p ≤ n) same (rules.within (i % 4096) (omega arith) (ap (is_set e.bits) (sym rest) ∙ f.is_one)) in
      spread n (i / 4096) (i % 4096) i e.base (2 ^ o) (omega arith) base fits)
      (λ (ne : (e.order < o) ⊎ (o < e.order)). ⊎_elim
      (λ (l : e.order < o). absurd (omega (arith, number_within n e rules.below, below_mono n (suc e.order) o (omega arith))))
      (λ (g : o < e.order). absurd (omega (arith, below_mono n (suc o) e.order (omega arith), below_more n o)))
      ne)
      (cases_order e.order o)
    where
      quotient : (x y : ℕ) → (4096 * x + y) / 4096 ≡ x + y / 4096
      quotient x y = omega arith

      remainder : (x y : ℕ) → (4096 * x + y) % 4096 ≡ y % 4096
      remainder x y = omega arith

      spread : (n q r i base p : ℕ) → i ≡ 4096 * q + r → base ≡ q * (4096 * p) → base + r * p + p ≤ n → (i + 1) * p ≤ n
      spread n q r i base p e b le = let whole : (4096 * q + r + 1) * p ≡ q * (4096 * p) + r * p + p = grind arith in omega (arith, ap (λ (x : ℕ). (x + 1) * p) e)

  pub read_bitmaps : AreBitmaps n bytes
  read_bitmaps = record { size = ap length is ∙ length_puts n zeros 0 es size follow sized; runs = ends }

  pub read_marked : (r : Run) → sets.contains (runs_of n bytes) r ≡ true → IsMarkedIn es r
  read_marked r t =
      let both = marked-parts n bytes r (sym (contains-runs_of n bytes r) ∙ t) in
      let f = from_zeros (bit_index n r) both.1 in
      let e : Element = f.element in
      let rules : IsElement n e = element_is e f.there in
      let bit = bit_index n r % 4096 in
      let few : bit < 4096 = omega arith in
      let run : IsRun n (run_of e bit) = run_is n e bit rules.small rules.aligned (rules.within bit few f.is_one) in
      let at : bit_index n (run_of e bit) ≡ bit_index n r = bit_index_of n e bit rules.aligned ∙ omega (arith, f.number) in
      record {
        element = e;
        there = f.there;
        bit = bit;
        small = few;
        is_one = f.is_one;
        same = bit_index_only n (run_of e bit) r run both.0 at;
      }

  pub marked_read : (r : Run) → IsMarkedIn es r → sets.contains (runs_of n bytes) r ≡ true
  marked_read r m =
      let e : Element = m.element in
      let rules : IsElement n e = element_is e m.there in
      let run : IsRun n (run_of e m.bit) = run_is n e m.bit rules.small rules.aligned (rules.within m.bit m.small m.is_one) in
      let at : bit_index n (run_of e m.bit) ≡ 4096 * number_of n e + m.bit = bit_index_of n e m.bit rules.aligned in
      let quotient : bit_index n (run_of e m.bit) / 4096 ≡ number_of n e = first (bit_index n (run_of e m.bit)) (number_of n e) m.bit m.small at in
      let rest : bit_index n (run_of e m.bit) % 4096 ≡ m.bit = second (bit_index n (run_of e m.bit)) (number_of n e) m.bit m.small at in
      ap (sets.contains (runs_of n bytes)) (sym m.same) ∙ contains-runs_of n bytes (run_of e m.bit) ∙ marked-run n bytes (run_of e m.bit) run
      ∙ ap (λ (l : List ℕ). is_set l (bit_index n (run_of e m.bit))) is
      ∙ puts_has n zeros 0 es m.there.0 e (bit_index n (run_of e m.bit)) size follow sized m.there.1 m.there.2 quotient (ap (is_set e.bits) rest ∙ m.is_one)
    where
      first : (p t b : ℕ) → b < 4096 → p ≡ 4096 * t + b → p / 4096 ≡ t
      first p t b lt e = omega arith

      second : (p t b : ℕ) → b < 4096 → p ≡ 4096 * t + b → p % 4096 ≡ b
      second p t b lt e = omega arith
