-- The chunk frames that are written for a set of runs, one after another.
use Rattle.std.proofs.Common.{◌≡◌, ℕ, zero, suc, ◌+◌, ◌*◌, ◌/◌, ◌<◌, ◌≤◌, true, List, [], ◌∷◌, ◌++◌, length, map, take, drop, replicate, get_or, refl, sym, ap, subst, ◌∙◌, inl, inr, arith}
use Rattle.std.specs.Prelude.{nat_lt, nat_le, ◌&&◌}
use Rattle.std.specs.FinSet as sets
use Rattle.std.specs.List.{All, list_all}
use Rattle.std.proofs.lemmas.Bool.{le-leb, lt-ltb, and_from}
use Rattle.std.proofs.lemmas.List.{get_or-take, get_or-drop, get_or_past}
use Rattle.std.proofs.lemmas.List.Elements.{All-nil, All-append}
use Rattle.std.proofs.lemmas.List.Folds.{list_all-append}
use Rattle.std.proofs.lemmas.List.FromFn.{length-map-range_with_len}
use Rattle.std.proofs.lemmas.Bool.{cases_lt}
use Rattle.ho_base.specs.BitmapCount.{bitmap_count}
use Rattle.folio_bitmaps.specs.Runs.{Run, Runs, IsRun}
use Rattle.folio_bitmaps.specs.Chunks.{Element, element_at, elements_of, count_of, next_of, start_of}
use Rattle.folio_bitmaps.specs.Reading.{Follow, least_after}
use Rattle.folio_bitmaps.specs.Written.{IsBitmap, IsWritten, full_count}
use Rattle.folio_bitmaps.proofs.Follows.{follow_append, upto, upto_more, all_upto}
use Rattle.folio_bitmaps.proofs.ReadBack.{IsOne, upto_follow, upto_ones}
use Rattle.record_frames.specs.Ram.{Ram}
use Rattle.record_frames.specs.Sheets.{Sheet, items_of, numbers_of}
use Rattle.record_frames.specs.Rules.{ELEMENTS, is_element}
use Rattle.kho_writer.proofs.ElementTests.{element_passes}

-- a chunk frame with what its bytes say, and those with these numbers
abbrev pub sheet_of : Ram → ℕ → Sheet Element
sheet_of ram p = record { at = p; items = elements_of (ram.page p) }

abbrev pub chain_of : Ram → List ℕ → List (Sheet Element)
chain_of ram chunks = map (sheet_of ram) chunks

pub numbers_again : (ram : Ram) (chunks : List ℕ) → numbers_of (chain_of ram chunks) ≡ chunks
numbers_again ram [] = refl
numbers_again ram (p ∷ chunks) = ap (λ (l : List ℕ). p ∷ l) (numbers_again ram chunks)

module _ (ram : Ram) (runs : Runs) (members : (r : Run) → sets.contains runs r ≡ true → IsRun ram.count r) where
  abbrev total : ℕ
  total = bitmap_count ram.count

  -- these frames hold the chain's frames from frame i on
  abbrev pub From : ℕ → List ℕ → Type 0
  From i chunks = (j d : ℕ) → j < length chunks → IsWritten ram.count runs (i + j) (get_or chunks (j + 1) 0) (ram.page (get_or chunks j d))

  pub tail_from : (i p : ℕ) (chunks : List ℕ) → From i (p ∷ chunks) → From (i + 1) chunks
  tail_from i p chunks h j d lt =
      let e : i + suc j ≡ i + 1 + j = omega arith in
      subst (λ (x : ℕ). IsWritten ram.count runs x (get_or chunks (j + 1) 0) (ram.page (get_or chunks j d))) e (moved (h (suc j) d (omega arith)))
    where
      moved : IsWritten ram.count runs (i + suc j) (get_or (p ∷ chunks) (suc j + 1) 0) (ram.page (get_or chunks j d)) → IsWritten ram.count runs (i + suc j) (get_or chunks (j + 1) 0) (ram.page (get_or chunks j d))
      moved w = let s : suc j + 1 ≡ suc (j + 1) = omega arith in subst (λ (x : ℕ). IsWritten ram.count runs (i + suc j) (get_or (p ∷ chunks) x 0) (ram.page (get_or chunks j d))) s w

  pub head_from : (i p : ℕ) (chunks : List ℕ) → From i (p ∷ chunks) → IsWritten ram.count runs i (get_or chunks 0 0) (ram.page p)
  head_from i p chunks h =
      let e : i + 0 ≡ i = omega arith in
      let s : 0 + 1 ≡ suc 0 = omega arith in
      subst (λ (x : ℕ). IsWritten ram.count runs x (get_or chunks 0 0) (ram.page p)) e
      (subst (λ (x : ℕ). IsWritten ram.count runs (i + 0) (get_or (p ∷ chunks) x 0) (ram.page p)) s (h 0 0 (omega arith)))

  page_elements : (i next : ℕ) (page : List ℕ) → IsWritten ram.count runs i next page → elements_of page ≡ upto page (full_count ram.count i)
  page_elements i next page w = all_upto page ∙ ap (upto page) w.count

  pub chain_follow : (i : ℕ) (chunks : List ℕ) → i + length chunks ≡ (total + 6) / 7 → From i chunks → Follow ram.count (7 * i) (items_of (chain_of ram chunks))
  chain_follow i [] count h = tt
  chain_follow i (p ∷ []) count h =
      let w = head_from i p [] h in
      let one = upto_follow ram.count runs members (ram.page p) (7 * i) (full_count ram.count i) w.elements in
      follow_append ram.count (7 * i) (elements_of (ram.page p)) [] (subst (Follow ram.count (7 * i)) (sym (page_elements i (get_or [] 0 0) (ram.page p) w)) one.0) tt
  chain_follow i (p ∷ (q ∷ chunks)) count h =
      let n = ram.count in
      let w = head_from i p (q ∷ chunks) h in
      let one = upto_follow n runs members (ram.page p) (7 * i) (full_count n i) w.elements in
      let is = page_elements i (get_or (q ∷ chunks) 0 0) (ram.page p) w in
      let full : 7 * i + full_count n i ≡ 7 * (i + 1) = omega arith in
      let ends : least_after n (7 * i) (elements_of (ram.page p)) ≡ 7 * (i + 1) = ap (least_after n (7 * i)) is ∙ one.1 ∙ full in
      follow_append n (7 * i) (elements_of (ram.page p)) (items_of (chain_of ram (q ∷ chunks))) (subst (Follow n (7 * i)) (sym is) one.0)
      (subst (λ (x : ℕ). Follow n x (items_of (chain_of ram (q ∷ chunks)))) (sym ends) (chain_follow (i + 1) (q ∷ chunks) (omega arith) (tail_from i p (q ∷ chunks) h)))

  pub chain_ones : (i : ℕ) (chunks : List ℕ) → From i chunks → All (IsOne ram.count runs members) (items_of (chain_of ram chunks))
  chain_ones i [] h = All-nil (IsOne ram.count runs members)
  chain_ones i (p ∷ chunks) h =
      let w = head_from i p chunks h in
      All-append (IsOne ram.count runs members) (elements_of (ram.page p)) (items_of (chain_of ram chunks))
      (subst (All (IsOne ram.count runs members)) (sym (page_elements i (get_or chunks 0 0) (ram.page p) w)) (upto_ones ram.count runs members (ram.page p) (7 * i) (full_count ram.count i) w.elements))
      (chain_ones (i + 1) chunks (tail_from i p chunks h))

  -- what a frame of the chain passes
  pub record Passes (page : List ℕ) (next : ℕ) : Type 0 where
    pub next_is : next_of page ≡ next
    pub few : count_of page ≤ 7
    pub zeros : take 16 (drop 16 page) ≡ replicate 16 0
    pub some : nat_lt 0 (length (elements_of page)) ≡ true
    pub most : nat_le (length (elements_of page)) ELEMENTS ≡ true
    pub each : list_all (is_element ram.count) (elements_of page) ≡ true

  bitmap_passes : (t : ℕ) (page : List ℕ) (k : ℕ) → ((i : ℕ) → get_or page i 0 < 256) → IsBitmap ram.count runs t (element_at page k) → is_element ram.count (element_at page k) ≡ true
  bitmap_passes t page k small h =
      element_passes ram.count (element_at page k) (record { small = h.small; aligned = h.aligned; below = h.below; within = λ b lt is. (members _ (sym (h.bits b lt) ∙ is)).2 }) h.size
      (λ i. elim (cases_lt i 512) [
        | inl lt ↦ omega (arith, get_or-take 512 (drop (start_of k + 16) page) i 0 lt, get_or-drop (start_of k + 16) page i 0, small (start_of k + 16 + i))
        | inr le ↦ omega (arith, get_or_past (take 512 (drop (start_of k + 16) page)) i 0 (omega (arith, h.size)))
      ])

  upto_pass : (s : ℕ) (page : List ℕ) → ((i : ℕ) → get_or page i 0 < 256) → (c : ℕ) → ((k : ℕ) → k < c → IsBitmap ram.count runs (s + k) (element_at page k))
      → list_all (is_element ram.count) (upto page c) ≡ true
  upto_pass s page small zero h = refl
  upto_pass s page small (suc c) h =
      let one : c + 1 ≡ suc c = omega arith in
      let more : upto page (suc c) ≡ upto page c ++ element_at page c ∷ [] = ap (upto page) (sym one) ∙ upto_more page c in
      let last = bitmap_passes (s + c) page c small (h c (omega arith)) in
      ap (list_all (is_element ram.count)) more ∙ list_all-append (is_element ram.count) (upto page c) (element_at page c ∷ [])
      ∙ and_from (list_all (is_element ram.count) (upto page c)) (is_element ram.count (element_at page c) && true) (upto_pass s page small c (λ k lt. h k (omega arith)))
      (and_from (is_element ram.count (element_at page c)) true last refl)

  pub frame_passes : (i next : ℕ) (page : List ℕ) → i < (total + 6) / 7 → ((i : ℕ) → get_or page i 0 < 256) → IsWritten ram.count runs i next page → Passes page next
  frame_passes i next page lt small w =
      let is = page_elements i next page w in
      let long : length (elements_of page) ≡ full_count ram.count i = ap length is ∙ length-map-range_with_len (element_at page) 0 (full_count ram.count i) in
      record {
        next_is = w.next_is;
        few = omega (arith, w.count);
        zeros = w.zeros;
        some = lt-ltb 0 (length (elements_of page)) (omega (arith, long));
        most = le-leb (length (elements_of page)) ELEMENTS (omega (arith, long));
        each = ap (list_all (is_element ram.count)) is ∙ upto_pass (7 * i) page small (full_count ram.count i) w.elements;
      }
