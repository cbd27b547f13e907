-- The chain that was written for a set is read back as this set.
use Rattle.std.proofs.Common.{◌≡◌, ◌⊎◌, ℕ, zero, suc, ◌+◌, ◌*◌, ◌/◌, ◌%◌, ◌^◌, ◌<◌, ◌≤◌, true, List, [], ◌∷◌, ◌++◌, length, get_or, refl, sym, ap, subst, ◌∙◌, ⊎_elim, arith}
use Rattle.std.specs.FinSet as sets
use Rattle.std.specs.List.{All, Contains}
use Rattle.std.proofs.lemmas.Bool.{cases_order}
use Rattle.std.proofs.lemmas.List.Elements.{All-nil, All-append, All-contains}
use Rattle.std.proofs.lemmas.List.FromFn.{length-map-range_with_len, get_or-map-range_with_len}
use Rattle.phys_frames.specs.Memory.{Memory}
use Rattle.folio_bitmaps.specs.Runs.{Run, Runs, IsRun}
use Rattle.ho_base.specs.BitmapCount.{cover, bitmaps_below, bitmap_count}
use Rattle.folio_bitmaps.specs.Bitmaps.{bit_index}
use Rattle.folio_bitmaps.specs.Chunks.{Element, element_at, elements_of, count_of, number_of, run_of, IsElement}
use Rattle.folio_bitmaps.specs.Reading.{Follows, Follow, least_after}
use Rattle.folio_bitmaps.specs.Chain.{page_of, Leads, all_elements, HasMarks}
use Rattle.folio_bitmaps.specs.Written.{IsBitmap, IsWritten, full_count}
use Rattle.folio_bitmaps.specs.Laws.{HoldsChain}
use Rattle.folio_bitmaps.proofs.Sets.{run_path}
use Rattle.folio_bitmaps.proofs.Counts.{below_mono, bit_index_within, bit_index_count, aligned_is}
use Rattle.folio_bitmaps.proofs.Keys.{base_is, number_within}
use Rattle.folio_bitmaps.proofs.Follows.{follow_append, follow_push, after_append, follow_elements, follow_rising, upto, upto_more, all_upto}
use Rattle.folio_bitmaps.proofs.Walked.{contains_flat}

-- the run of a bit, by the place of the bit
pub run_found : (n : ℕ) (e : Element) (r : Run) → IsRun n r → e.base < n → e.base % cover e.order ≡ 0 → number_of n e ≡ bit_index n r / 4096 → run_of e (bit_index n r % 4096) ≡ r
run_found n e r h below aligned number =
    ⊎_elim (λ (same : e.order ≡ r.order).
    let at : bit_index n r / 4096 ≡ bitmaps_below n r.order + r.first / 2 ^ r.order / 4096 = quotient (bitmaps_below n r.order) (r.first / 2 ^ r.order) in
    let rest : bit_index n r % 4096 ≡ r.first / 2 ^ r.order % 4096 = remainder (bitmaps_below n r.order) (r.first / 2 ^ r.order) in
    let q : e.base / cover e.order ≡ r.first / 2 ^ r.order / 4096 = omega (arith, ap (bitmaps_below n) same) in
    let base : e.base ≡ r.first / 2 ^ r.order / 4096 * cover r.order = base_is e aligned ∙ (λ i. q i * cover (same i)) in
    let bits : bit_index n r % 4096 * 2 ^ e.order ≡ r.first / 2 ^ r.order % 4096 * 2 ^ r.order = λ i. rest i * 2 ^ same i in
    run_path (run_of e (bit_index n r % 4096)) r same (together (r.first / 2 ^ r.order) (2 ^ r.order) e.base (bit_index n r % 4096 * 2 ^ e.order) r.first base bits (aligned_is r.first r.order h.1)))
    (λ (ne : (e.order < r.order) ⊎ (r.order < e.order)). ⊎_elim
    (λ (l : e.order < r.order). absurd (omega (arith, number_within n e below, below_mono n (suc e.order) r.order l)))
    (λ (g : r.order < e.order). absurd (omega (arith, bit_index_within n r h, below_mono n (suc r.order) e.order g)))
    ne)
    (cases_order e.order r.order)
  where
    quotient : (x y : ℕ) → (4096 * x + y) / 4096 ≡ x + y / 4096
    quotient x y = omega arith

    remainder : (x y : ℕ) → (4096 * x + y) % 4096 ≡ y % 4096
    remainder x y = omega arith

    together : (y p base bits first : ℕ) → base ≡ y / 4096 * (4096 * p) → bits ≡ y % 4096 * p → first ≡ y * p → base + bits ≡ first
    together y p base bits first b c f =
        let parts : y ≡ 4096 * (y / 4096) + y % 4096 = omega arith in
        let whole : (4096 * (y / 4096) + y % 4096) * p ≡ y / 4096 * (4096 * p) + y % 4096 * p = grind arith in
        omega (arith, ap (λ (x : ℕ). x * p) parts)

module _ (n : ℕ) (runs : Runs) (members : (r : Run) → sets.contains runs r ≡ true → IsRun n r) where
  -- a bitmap of the set is an element
  bitmap_element : (t : ℕ) (e : Element) → IsBitmap n runs t e → IsElement n e
  bitmap_element t e h = record {
    small = h.small;
    aligned = h.aligned;
    below = h.below;
    within = λ b lt is. (members (run_of e b) (sym (h.bits b lt) ∙ is)).2;
  }

  -- one of the bitmaps
  pub record IsOne (e : Element) : Type 0 where
    pub number : ℕ
    pub is : IsBitmap n runs number e

  module _ (page : List ℕ) (s : ℕ) where
    pub upto_follow : (c : ℕ) → ((k : ℕ) → k < c → IsBitmap n runs (s + k) (element_at page k)) → Follow n s (upto page c) × (least_after n s (upto page c) ≡ s + c)
    upto_follow zero h = (tt, omega arith)
    upto_follow (suc c) h =
        let before = upto_follow c (λ k lt. h k (omega arith)) in
        let e : Element = element_at page c in
        let is : IsBitmap n runs (s + c) e = h c (omega arith) in
        let one : c + 1 ≡ suc c = omega arith in
        let more : upto page (suc c) ≡ upto page c ++ e ∷ [] = ap (upto page) (sym one) ∙ upto_more page c in
        let follows : Follows n (least_after n s (upto page c)) e = record { is = bitmap_element (s + c) e is; later = at_least (least_after n s (upto page c)) (number_of n e) (s + c) before.1 is.number } in (
          subst (Follow n s) (sym more) (follow_push n s (upto page c) e before.0 follows),
          ap (least_after n s) more ∙ after_append n s (upto page c) (e ∷ []) ∙ next (number_of n e) s c is.number,
        )
      where
        at_least : (b x y : ℕ) → b ≡ y → x ≡ y → b ≤ x
        at_least b x y e f = omega arith

        next : (x s c : ℕ) → x ≡ s + c → x + 1 ≡ s + suc c
        next x s c e = omega arith

    pub upto_ones : (c : ℕ) → ((k : ℕ) → k < c → IsBitmap n runs (s + k) (element_at page k)) → All IsOne (upto page c)
    upto_ones c h k d lt =
        let long : length (upto page c) ≡ c = length-map-range_with_len (element_at page) 0 c in
        let few : k < c = omega arith in
        let at : get_or (upto page c) k d ≡ element_at page k = get_or-map-range_with_len (element_at page) 0 c k k d few (omega arith) in
        subst IsOne (sym at) (record { number = s + k; is = h k few })

module _ (m : Memory) (runs : Runs) (members : (r : Run) → sets.contains runs r ≡ true → IsRun (length m.pages) r) where
  abbrev total : ℕ
  total = bitmap_count (length m.pages)

  -- the frames of a chain from chunk frame i on
  abbrev From : ℕ → List ℕ → Type 0
  From i chunks = (j d : ℕ) → j < length chunks → IsWritten (length m.pages) runs (i + j) (get_or chunks (j + 1) 0) (page_of m (get_or chunks j d))

  tail_from : (i p : ℕ) (chunks : List ℕ) → From i (p ∷ chunks) → From (i + 1) chunks
  tail_from i p chunks h j d lt =
      let e : i + suc j ≡ i + 1 + j = omega arith in
      subst (λ (x : ℕ). IsWritten (length m.pages) runs x (get_or chunks (j + 1) 0) (page_of m (get_or chunks j d))) e (moved (h (suc j) d (omega arith)))
    where
      moved : IsWritten (length m.pages) runs (i + suc j) (get_or (p ∷ chunks) (suc j + 1) 0) (page_of m (get_or chunks j d)) → IsWritten (length m.pages) runs (i + suc j) (get_or chunks (j + 1) 0) (page_of m (get_or chunks j d))
      moved w = let s : suc j + 1 ≡ suc (j + 1) = omega arith in subst (λ (x : ℕ). IsWritten (length m.pages) runs (i + suc j) (get_or (p ∷ chunks) x 0) (page_of m (get_or chunks j d))) s w

  head_from : (i p : ℕ) (chunks : List ℕ) → From i (p ∷ chunks) → IsWritten (length m.pages) runs i (get_or chunks 0 0) (page_of m p)
  head_from i p chunks h =
      let e : i + 0 ≡ i = omega arith in
      let s : 0 + 1 ≡ suc 0 = omega arith in
      subst (λ (x : ℕ). IsWritten (length m.pages) runs x (get_or chunks 0 0) (page_of m p)) e
      (subst (λ (x : ℕ). IsWritten (length m.pages) runs (i + 0) (get_or (p ∷ chunks) x 0) (page_of m p)) s (h 0 0 (omega arith)))

  page_elements : (i next p : ℕ) → IsWritten (length m.pages) runs i next (page_of m p) → elements_of (page_of m p) ≡ upto (page_of m p) (full_count (length m.pages) i)
  page_elements i next p w = all_upto (page_of m p) ∙ ap (upto (page_of m p)) w.count

  pub chain_follow : (i : ℕ) (chunks : List ℕ) → i + length chunks ≡ (total + 6) / 7 → From i chunks → Follow (length m.pages) (7 * i) (all_elements m chunks)
  chain_follow i [] count h = tt
  chain_follow i (p ∷ []) count h =
      let w = head_from i p [] h in
      let one = upto_follow (length m.pages) runs members (page_of m p) (7 * i) (full_count (length m.pages) i) w.elements in
      follow_append (length m.pages) (7 * i) (elements_of (page_of m p)) [] (subst (Follow (length m.pages) (7 * i)) (sym (page_elements i (get_or [] 0 0) p w)) one.0) tt
  chain_follow i (p ∷ (q ∷ chunks)) count h =
      let n = length m.pages in
      let w = head_from i p (q ∷ chunks) h in
      let one = upto_follow n runs members (page_of m p) (7 * i) (full_count n i) w.elements in
      let is = page_elements i (get_or (q ∷ chunks) 0 0) p w in
      let full : 7 * i + full_count n i ≡ 7 * (i + 1) = omega arith in
      let ends : least_after n (7 * i) (elements_of (page_of m p)) ≡ 7 * (i + 1) = ap (least_after n (7 * i)) is ∙ one.1 ∙ full in
      follow_append n (7 * i) (elements_of (page_of m p)) (all_elements m (q ∷ chunks)) (subst (Follow n (7 * i)) (sym is) one.0)
      (subst (λ (x : ℕ). Follow n x (all_elements m (q ∷ chunks))) (sym ends) (chain_follow (i + 1) (q ∷ chunks) (omega arith) (tail_from i p (q ∷ chunks) h)))

  pub chain_ones : (i : ℕ) (chunks : List ℕ) → From i chunks → All (IsOne (length m.pages) runs members) (all_elements m chunks)
  chain_ones i [] h = All-nil (IsOne (length m.pages) runs members)
  chain_ones i (p ∷ chunks) h =
      let w = head_from i p chunks h in
      All-append (IsOne (length m.pages) runs members) (elements_of (page_of m p)) (all_elements m chunks)
      (subst (All (IsOne (length m.pages) runs members)) (sym (page_elements i (get_or chunks 0 0) p w)) (upto_ones (length m.pages) runs members (page_of m p) (7 * i) (full_count (length m.pages) i) w.elements))
      (chain_ones (i + 1) chunks (tail_from i p chunks h))

  pub chain_leads : (i : ℕ) (chunks : List ℕ) → From i chunks → Leads m (get_or chunks 0 0) chunks 0
  chain_leads i [] h = refl
  chain_leads i (p ∷ chunks) h =
      (refl, subst (λ (x : ℕ). Leads m x chunks 0) (sym (head_from i p chunks h).next_is) (chain_leads (i + 1) chunks (tail_from i p chunks h)))

pub reads_back : (m : Memory) (runs : Runs) (chunks : List ℕ) → 0 < bitmap_count (length m.pages) → HoldsChain m runs chunks → HasMarks m (get_or chunks 0 0) chunks runs
reads_back m runs chunks some h =
    let n = length m.pages in
    let from : (j d : ℕ) → j < length chunks → IsWritten n runs (0 + j) (get_or chunks (j + 1) 0) (page_of m (get_or chunks j d)) = λ j d lt.
    let e : 0 + j ≡ j = omega arith in subst (λ (x : ℕ). IsWritten n runs x (get_or chunks (j + 1) 0) (page_of m (get_or chunks j d))) (sym e) (h.pages j d lt) in
    let follow : Follow n 0 (all_elements m chunks) = chain_follow m runs h.members 0 chunks (omega (arith, h.count)) from in
    let all : List Element = all_elements m chunks in
    record {
      chain = record {
        some = omega (arith, h.count);
        leads = chain_leads m runs h.members 0 chunks from;
        rules = record {
          numbers = h.numbers;
          once = h.once;
          shaped = λ k d lt. let w = h.pages k d lt in record { some = omega (arith, w.count, h.count); few = omega (arith, w.count); zeros = w.zeros };
          elements = follow_elements n 0 all follow;
          rising = follow_rising n 0 all follow;
        };
      };
      marks = λ r. (
        (λ t.
            let run : IsRun n r = h.members r t in
            let number : ℕ = bit_index n r / 4096 in
            let few : number < bitmap_count n = omega (arith, bit_index_count n r run) in
            let i : ℕ = number / 7 in
            let k : ℕ = number % 7 in
            let there : i < length chunks = omega (arith, h.count) in
            let w = h.pages i 0 there in
            let inside : k < full_count n i = omega arith in
            let page : List ℕ = page_of m (get_or chunks i 0) in
            let e : Element = element_at page k in
            let is : IsBitmap n runs (7 * i + k) e = w.elements k inside in
            let same : run_of e (bit_index n r % 4096) ≡ r = run_found n e r run is.below is.aligned (is.number ∙ omega arith) in
            let bit : bit_index n r % 4096 < 4096 = omega arith in
            record {
              element = e;
              there = contains_flat (λ (q : ℕ). elements_of (page_of m q)) chunks i 0 e there (element_there page k (omega (arith, w.count)));
              bit = bit_index n r % 4096;
              small = bit;
              is_one = is.bits (bit_index n r % 4096) bit ∙ ap (sets.contains runs) same ∙ t;
              same = same;
            }),
        (λ mark.
            let one = All-contains (IsOne n runs h.members) all mark.element (chain_ones m runs h.members 0 chunks from) mark.there in
            ap (sets.contains runs) (sym mark.same) ∙ sym (one.is.bits mark.bit mark.small) ∙ mark.is_one),
      );
    }
  where
    element_there : (page : List ℕ) (k : ℕ) → k < count_of page → Contains (elements_of page) (element_at page k)
    element_there page k lt = subst (λ (es : List Element). Contains es (element_at page k)) (sym (all_upto page)) (found (count_of page) lt)
      where
        found : (c : ℕ) → k < c → Contains (upto page c) (element_at page k)
        found c few =
            let long : length (upto page c) ≡ c = length-map-range_with_len (element_at page) 0 c in
            (k, omega arith, get_or-map-range_with_len (element_at page) 0 c k k (element_at page k) few (omega arith))

pub some_bitmaps : (n : ℕ) → 0 < n → 0 < bitmap_count n
unfolding bitmap_count
some_bitmaps n pos = omega (arith, place_first n pos)
  where
    place_first : (k : ℕ) → 0 < k → 0 < bitmaps_below k 10
    place_first k lt = let zero_run : IsRun k (record { first = 0; order = 0 }) = (omega arith, refl, omega arith) in
        omega (arith, bit_index_within k (record { first = 0; order = 0 }) zero_run, below_mono k 1 10 (omega arith))
