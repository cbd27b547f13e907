-- The chain that is written is read.
use Rattle.std.proofs.Common.{◌≡◌, ℕ, zero, suc, ◌+◌, ◌<◌, ◌≤◌, Bool, true, false, cond, eqb, List, [], ◌∷◌, ◌++◌, ◌*◌, ◌/◌, length, Option, Some, None, Ok, sym, ap, ◌∙◌, append_assoc, arith}
use Rattle.std.specs.Prelude.{nat_eq, nat_lt, nat_le, not, ◌&&◌}
use Rattle.std.specs.FinSet as sets
use Rattle.std.specs.List.{list_all, list_any}
use Rattle.std.proofs.lemmas.Bool.{ltb-true, ne_eqb, and_parts, and_from}
use Rattle.std.proofs.lemmas.List.{map-append, append-nil}
use Rattle.std.proofs.lemmas.Grind.{flat_map-append}
use Rattle.ho_base.specs.BitmapCount.{bitmap_count}
use Rattle.folio_bitmaps.specs.Runs.{Run, Runs, IsRun}
use Rattle.folio_bitmaps.specs.Chunks.{Element, elements_of, next_of}
use Rattle.folio_bitmaps.proofs.ReadBack.{some_bitmaps}
use Rattle.record_frames.specs.Ram.{Ram, is_frame}
use Rattle.record_frames.specs.Sheets.{Sheet, items_of, numbers_of}
use Rattle.record_frames.specs.Rules.{ELEMENTS, all_apart, all_rise, element_before, is_element, is_chunk_sheet}
use Rattle.record_frames.specs.Laws.{Holds, ReadIsChain}
use Rattle.record_frames.specs.Reading.{Front, also, go_on, sheet_at, front_at, chain_from, chain_at, chunks_at, chunk_layout}
use Rattle.kho_writer.specs.Written.{HoldWritten, IsChainOf}
use Rattle.kho_writer.proofs.ChunkFronts.{front_is}
use Rattle.kho_writer.proofs.Rising.{not_before, few_frames, rise_front, follow_rise}
use Rattle.kho_writer.proofs.InChain.{sheet_of, chain_of, numbers_again, From, tail_from, head_from, chain_follow, Passes, frame_passes}
use Rattle.kho_writer.proofs.MarkedRuns.{from_first, marks_set}

nonzero : (n p : ℕ) → is_frame n p ≡ true → eqb p 0 ≡ false
nonzero n p h =
    let up : 0 < p = ltb-true 0 p (and_parts (nat_lt 0 p) (nat_lt p n) h).0 in
    ne_eqb p 0 (λ e. omega (arith, up, e))

below : (n p : ℕ) → is_frame n p ≡ true → p < n
below n p h = ltb-true p n (and_parts (nat_lt 0 p) (nat_lt p n) h).1

module _ (ram : Ram) (runs : Runs) (members : (r : Run) → sets.contains runs r ≡ true → IsRun ram.count r) (holds : Holds ram) where
  abbrev read : List (Sheet Element) → ℕ → Option (Front Element)
  read = sheet_at ram chunk_layout (is_chunk_sheet ram.count) []

  -- a frame of the chain is read after those before it
  sheet_read : (earlier : List (Sheet Element)) (p next : ℕ) → is_frame ram.count p ≡ true → list_any (nat_eq p) (numbers_of earlier) ≡ false → Passes ram runs members (ram.page p) next
      → all_rise element_before (items_of earlier ++ elements_of (ram.page p)) ≡ true → read earlier p ≡ Some (record { next = next; items = elements_of (ram.page p) })
  unfolding sheet_at
  sheet_read earlier p next frame new h rise =
      let es = elements_of (ram.page p) in
      let test : (nat_lt 0 (length es) && nat_le (length es) ELEMENTS && list_all (is_element ram.count) es && all_rise element_before (items_of earlier ++ es)) ≡ true =
      and_from (nat_lt 0 (length es) && nat_le (length es) ELEMENTS && list_all (is_element ram.count) es) (all_rise element_before (items_of earlier ++ es))
      (and_from (nat_lt 0 (length es) && nat_le (length es) ELEMENTS) (list_all (is_element ram.count) es) (and_from (nat_lt 0 (length es)) (nat_le (length es) ELEMENTS) h.some h.most) h.each) rise in
      ap (λ (b : Bool). cond b (also (front_at chunk_layout (ram.page p)) (λ f. cond (is_chunk_sheet ram.count earlier f.items f.next) (Some f) None)) None)
      (and_from (is_frame ram.count p) (not (list_any (nat_eq p) (numbers_of earlier))) frame (ap not new))
      ∙ ap (λ (o : Option (Front Element)). also o (λ f. cond (is_chunk_sheet ram.count earlier f.items f.next) (Some f) None)) (front_is (ram.page p) h.few h.zeros)
      ∙ ap (λ (b : Bool). cond b (Some (record { next = next_of (ram.page p); items = es })) None) test
      ∙ ap (λ (x : ℕ). Some (record { next = x; items = es })) h.next_is

  items_push : (earlier : List (Sheet Element)) (p : ℕ) → items_of (earlier ++ sheet_of ram p ∷ []) ≡ items_of earlier ++ elements_of (ram.page p)
  items_push earlier p =
      flat_map-append (λ (s : Sheet Element). s.items) earlier (sheet_of ram p ∷ []) ∙ ap (λ (l : List Element). items_of earlier ++ l) (append-nil (elements_of (ram.page p)))

  numbers_push : (earlier : List (Sheet Element)) (p : ℕ) → numbers_of (earlier ++ sheet_of ram p ∷ []) ≡ numbers_of earlier ++ p ∷ []
  numbers_push earlier p = map-append (λ (s : Sheet Element). s.at) earlier (sheet_of ram p ∷ [])

  abbrev Room : ℕ → ℕ → ℕ → List ℕ → Type 0
  Room fuel i p chunks = (length chunks < fuel) × (i + length (p ∷ chunks) ≡ (bitmap_count ram.count + 6) / 7)

  chain_read : (fuel : ℕ) (earlier : List (Sheet Element)) (i p : ℕ) (chunks : List ℕ) → Room fuel i p chunks → From ram runs members i (p ∷ chunks) → list_all (is_frame ram.count) (p ∷ chunks) ≡ true
      → all_apart (numbers_of earlier ++ p ∷ chunks) ≡ true → all_rise element_before (items_of earlier ++ items_of (chain_of ram (p ∷ chunks))) ≡ true
      → chain_from read fuel earlier p ≡ Ok (earlier ++ chain_of ram (p ∷ chunks))
  chain_read zero earlier i p chunks room from frames apart rise = absurd (omega (arith, room.0))
  chain_read (suc fuel) earlier i p [] room from frames apart rise =
      let fs = and_parts (is_frame ram.count p) true frames in
      let w = head_from ram runs members i p [] from in
      let h = frame_passes ram runs members i 0 (ram.page p) (omega (arith, room.1)) (holds.bytes p (below ram.count p fs.0)) w in
      let one : items_of (chain_of ram (p ∷ [])) ≡ elements_of (ram.page p) = append-nil (elements_of (ram.page p)) in
      let now = sheet_read earlier p 0 fs.0 (not_before (numbers_of earlier) p [] apart) h (ap (λ (l : List Element). all_rise element_before (items_of earlier ++ l)) (sym one) ∙ rise) in
      ap (λ (o : Option (Front Element)). go_on earlier p (chain_from read fuel) o) now
  chain_read (suc fuel) earlier i p (q ∷ chunks) room from frames apart rise =
      let fs = and_parts (is_frame ram.count p) (list_all (is_frame ram.count) (q ∷ chunks)) frames in
      let frame_q = (and_parts (is_frame ram.count q) (list_all (is_frame ram.count) chunks) fs.1).0 in
      let w = head_from ram runs members i p (q ∷ chunks) from in
      let h = frame_passes ram runs members i q (ram.page p) (omega (arith, room.1)) (holds.bytes p (below ram.count p fs.0)) w in
      let es = elements_of (ram.page p) in
      let rest = items_of (chain_of ram (q ∷ chunks)) in
      let all : all_rise element_before (items_of earlier ++ es ++ rest) ≡ true = ap (all_rise element_before) (append_assoc (items_of earlier) es rest) ∙ rise in
      let now = sheet_read earlier p q fs.0 (not_before (numbers_of earlier) p (q ∷ chunks) apart) h (rise_front element_before (items_of earlier ++ es) rest all) in
      let before = earlier ++ sheet_of ram p ∷ [] in
      let apart_more : all_apart (numbers_of before ++ q ∷ chunks) ≡ true =
      ap (λ (l : List ℕ). all_apart (l ++ q ∷ chunks)) (numbers_push earlier p) ∙ ap all_apart (append_assoc (numbers_of earlier) (p ∷ []) (q ∷ chunks)) ∙ apart in
      let more = chain_read fuel before (i + 1) q chunks (omega (arith, room.0), omega (arith, room.1)) (tail_from ram runs members i p (q ∷ chunks) from) fs.1 apart_more
      (ap (λ (l : List Element). all_rise element_before (l ++ rest)) (items_push earlier p) ∙ all) in
      ap (λ (o : Option (Front Element)). go_on earlier p (chain_from read fuel) o) now
      ∙ ap (λ (b : Bool). cond b (Ok before) (chain_from read fuel before q)) (nonzero ram.count q frame_q)
      ∙ more
      ∙ ap (λ (x : List (Sheet Element)). Ok x) (append_assoc earlier (sheet_of ram p ∷ []) (chain_of ram (q ∷ chunks)))

-- where all frames hold bytes
pub held_is_chain : ReadIsChain → (ram : Ram) (runs : Runs) (chunks : List ℕ) → 0 < ram.count → Holds ram → HoldWritten ram runs chunks → IsChainOf ram runs chunks
unfolding chunks_at chain_at
held_is_chain law ram runs [] some holds h = absurd (omega (arith, h.count, some_bitmaps ram.count some))
held_is_chain law ram runs (p ∷ chunks) some holds h =
    let n = ram.count in
    let from = from_first ram runs h.members (p ∷ chunks) h.count h.pages in
    let rise = follow_rise n (7 * 0) (items_of (chain_of ram (p ∷ chunks))) (chain_follow ram runs h.members 0 (p ∷ chunks) (omega (arith, h.count)) from) in
    let few : length (p ∷ chunks) ≤ n = few_frames n (p ∷ chunks) h.frames h.once in
    let found : chunks_at ram p ≡ Ok (chain_of ram (p ∷ chunks)) =
    chain_read ram runs h.members holds n [] 0 p chunks (omega (arith, few), omega (arith, h.count)) from h.frames h.once rise in
    record {
      chain = chain_of ram (p ∷ chunks);
      numbers = numbers_again ram (p ∷ chunks);
      spelled = law ram p (chain_of ram (p ∷ chunks)) holds found;
      marks = λ r small. marks_set ram runs h.members (p ∷ chunks) h.count h.pages r;
    }
