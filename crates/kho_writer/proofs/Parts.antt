-- Folios that are written in parts.
use Rattle.std.proofs.Common.{◌≡◌, ℕ, ◌+◌, ◌-◌, ◌<◌, ◌≤◌, true, Option, List, [], ◌∷◌, ◌++◌, length, map, take, drop, get_or, set as put, refl, sym, ap, subst, ◌∙◌, inl, inr, arith}
use Rattle.std.specs.FinSet as set
use Rattle.std.specs.List.{All, list_all, flat_map}
use Rattle.std.proofs.lemmas.Bool.{cases_lt, and_parts}
use Rattle.std.proofs.lemmas.List.{length-append, length-take-le, length-drop, take-append-drop, get_or_append_left, get_or-append_right}
use Rattle.std.proofs.lemmas.List.Elements.{All-nil, All-cons}
use Rattle.fdt_blob.specs.Spelling.{spelling}
use Rattle.ho_base.specs.declared.limits.TheConstants.{PAGE_BYTES}
use Rattle.ho_base.specs.BitmapCount.{chunk_frames}
use Rattle.ho_base.specs.declared.numbers.Pfn.{Pfn}
use Rattle.folio_bitmaps.specs.Runs.{Run, Marks, IsRun}
use Rattle.folio_bitmaps.specs.Written.{IsWritten, next_first, with_frames}
use Rattle.folio_bitmaps.proofs.ReadBack.{some_bitmaps}
use Rattle.phys_frames.specs.Memory.{FolioValue, first_frames, with_bytes}
use Rattle.record_frames.specs.Rules.{version_1}
use Rattle.record_frames.specs.Kept.{devices, bound_frames}
use Rattle.record_frames.specs.Owners.{single, given}
use Rattle.record_frames.specs.State.{bound_among}
use Rattle.record_frames.specs.Writing.{files_in, frames_of, holding, pages_in_use, with_pages}
use Rattle.record_frames.specs.declared.carried.Carried.{Carried}
use Rattle.record_frames.proofs.WrittenPages.{length_with_pages}
use Rattle.kho_laws.specs.Tree.{handover_tree}
use Rattle.kho_laws.specs.Owners.{is_run_of}
use Rattle.kho_laws.specs.Carrying.{runs_of_file}
use Rattle.kho_writer.specs.Folios.{front_count, fronts, chunks, HasRoom, MarksOwn, OtherBytes, HaveBytes, blob_for, front_pages, AreWritten}
use Rattle.kho_writer.proofs.FolioPages.{other_bytes}
use Rattle.kho_writer.proofs.ChunkNumbers.{frame_from, frame_below}

-- the blob of the entry frame, where its child says this
abbrev blob_with : Carried → ℕ → ℕ → List (Option ℕ) → List ℕ
blob_with c chunk header bounds = spelling (handover_tree version_1 c.shape chunk (record { number = c.number; header = header; bounds = bounds }))

-- the entry in the first folio, and the records in the others
pub fronts_written : (c : Carried) (fs first rest records : List FolioValue) (h x : FolioValue) (chunk header : ℕ) (bounds : List (Option ℕ)) → first ≡ take 1 fs → rest ≡ drop 1 fs
    → length fs ≡ front_count c → records ≡ with_pages rest (pages_in_use (frames_of rest) c.sessions) → header ≡ get_or (frames_of rest) 0 0
    → bounds ≡ bound_frames (map (bound_among c.bounds) devices) → h ≡ holding (get_or first 0 x) (blob_with c chunk header bounds)
    → put first 0 h ++ records ≡ with_pages fs (front_pages c (frames_of fs) chunk)
fronts_written c [] first rest records h x chunk header bounds a b count r he be hh = absurd (omega (arith, count))
fronts_written c (f ∷ fs) first rest records h x chunk header bounds a b count r he be hh =
    let head : header ≡ get_or (frames_of fs) 0 0 = he ∙ ap (λ (l : List FolioValue). get_or (frames_of l) 0 0) b in
    let entry : h ≡ holding f (blob_with c chunk (get_or (frames_of fs) 0 0) (bound_frames (map (bound_among c.bounds) devices))) =
    hh ∙ (λ i. holding (get_or (a i) 0 x) (blob_with c chunk (head i) (be i))) in
    let others : records ≡ with_pages fs (pages_in_use (frames_of fs) c.sessions) = r ∙ ap (λ (l : List FolioValue). with_pages l (pages_in_use (frames_of l) c.sessions)) b in
    λ i. put (a i) 0 (entry i) ++ others i

-- the blob fits its frame
pub blob_fits : (c : Carried) (fs rest : List FolioValue) (chunk header : ℕ) (bounds : List (Option ℕ)) → rest ≡ drop 1 fs → header ≡ get_or (frames_of rest) 0 0
    → bounds ≡ bound_frames (map (bound_among c.bounds) devices) → length (blob_with c chunk header bounds) ≤ PAGE_BYTES → length (blob_for c (frames_of fs) chunk) ≤ PAGE_BYTES
blob_fits c fs rest chunk header bounds b he be fits =
    let head : header ≡ get_or (drop 1 (frames_of fs)) 0 0 = he ∙ ap (λ (l : List FolioValue). get_or (frames_of l) 0 0) b ∙ ap (λ (l : List ℕ). get_or l 0 0) (behind_first fs) in
    let same : length (blob_with c chunk header bounds) ≡ length (blob_for c (frames_of fs) chunk) = λ i. length (blob_with c chunk (head i) (be i)) in
    omega (arith, same, fits)
  where
    behind_first : (fs : List FolioValue) → frames_of (drop 1 fs) ≡ drop 1 (frames_of fs)
    behind_first [] = refl
    behind_first (f ∷ fs) = refl

-- the number of the first folio
pub first_is : (fs : List FolioValue) (f : FolioValue) (p : Pfn) → 0 < length fs → p ≡ (get_or fs 0 f).first → p.0 ≡ get_or (frames_of fs) 0 0
first_is [] f p lt h = absurd (omega (arith, lt))
first_is (g ∷ fs) f p lt h = ap (λ (q : Pfn). q.0) h

-- ---- the whole

-- a machine's chain has a frame
pub some_chunks : (n : ℕ) → 0 < n → 0 < chunk_frames n
some_chunks n lt = omega (arith, some_bitmaps n lt)

below_from : (n : ℕ) (fs : List FolioValue) (bs : List ℕ) (rs qs : List Run) → list_all (is_run_of n) ((map single (frames_of fs ++ bs) ++ rs) ++ qs) ≡ true → All (λ (p : Pfn). p.0 < n) (first_frames fs)
below_from n [] bs rs qs h = All-nil (λ (p : Pfn). p.0 < n)
below_from n (f ∷ fs) bs rs qs h =
    let hs = and_parts (is_run_of n (single f.first.0)) (list_all (is_run_of n) ((map single (frames_of fs ++ bs) ++ rs) ++ qs)) h in
    All-cons (λ (p : Pfn). p.0 < n) f.first (first_frames fs) (frame_below n f.first.0 (frame_from n f.first.0 hs.0)) (below_from n fs bs rs qs hs.1)

module _ (c : Carried) (folios : List FolioValue) (room : HasRoom c folios) where
  -- the frames of the entry and the records are of the machine
  pub fronts_below : (n : ℕ) → n ≡ c.shape.frames → All (λ (p : Pfn). p.0 < n) (first_frames (fronts c folios))
  fronts_below n e =
      subst (λ (m : ℕ). All (λ (p : Pfn). p.0 < m) (first_frames (fronts c folios))) (sym e)
      (below_from c.shape.frames (fronts c folios) (given (bound_frames (map (bound_among c.bounds) devices))) (flat_map runs_of_file (files_in c.sessions)) _ room.hold.runs)

  pub fronts_long : length (fronts c folios) ≡ front_count c
  fronts_long = length-take-le (front_count c) folios (omega (arith, room.count))

  pub chunks_long : length (chunks c folios) ≡ chunk_frames c.shape.frames
  chunks_long = length-drop (front_count c) folios ∙ omega (arith, room.count)

  pub machine_some : 0 < c.shape.frames
  machine_some = some_from (fronts c folios) (given (bound_frames (map (bound_among c.bounds) devices))) (flat_map runs_of_file (files_in c.sessions)) _ (omega (arith, fronts_long)) room.hold.runs
    where
      some_from : (fs : List FolioValue) (bs : List ℕ) (rs qs : List Run) → 0 < length fs → list_all (is_run_of c.shape.frames) ((map single (frames_of fs ++ bs) ++ rs) ++ qs) ≡ true → 0 < c.shape.frames
      some_from [] bs rs qs lt h = absurd (omega (arith, lt))
      some_from (f ∷ fs) bs rs qs lt h =
          let hs = and_parts (is_run_of c.shape.frames (single f.first.0)) (list_all (is_run_of c.shape.frames) ((map single (frames_of fs ++ bs) ++ rs) ++ qs)) h in
          let below = frame_below c.shape.frames f.first.0 (frame_from c.shape.frames f.first.0 hs.0) in
          omega (arith, below)

-- other bytes in two parts
pub two_parts : (k : ℕ) (old a b : List FolioValue) → length a ≡ length (take k old) → OtherBytes (take k old) a → OtherBytes (drop k old) b → OtherBytes old (a ++ b)
two_parts k old a b e front back i lt d =
    let whole : take k old ++ drop k old ≡ old = take-append-drop k old in
    let both : length old ≡ length (take k old) + length (drop k old) = sym (ap length whole) ∙ length-append (take k old) (drop k old) in
    subst (λ (l : List FolioValue). get_or (a ++ b) i d ≡ with_bytes (get_or l i d) (get_or (a ++ b) i d).bytes) whole
    (elim (cases_lt i (length (take k old))) [
      | inl l ↦
          let x : get_or (a ++ b) i d ≡ get_or a i d = get_or_append_left a b d i (omega (arith, l, e)) in
          let y : get_or (take k old ++ drop k old) i d ≡ get_or (take k old) i d = get_or_append_left (take k old) (drop k old) d i l in
          x ∙ front i l d ∙ (λ j. with_bytes (sym y j) (sym x j).bytes)
      | inr g ↦
          let m = length (take k old) in
          let n = i - m in
          let x : get_or (a ++ b) i d ≡ get_or b n d = get_or-append_right a b m i d e g in
          let y : get_or (take k old ++ drop k old) i d ≡ get_or (drop k old) n d = get_or-append_right (take k old) (drop k old) m i d refl g in
          x ∙ back n (omega (arith, g, lt, both)) d ∙ (λ j. with_bytes (sym y j) (sym x j).bytes)
    ])

-- what a call of the writer leaves, from what its parts leave
module _ (c : Carried) (marks : Marks) (old fs cs fs_new cs_new : List FolioValue) (noted : List Pfn) (mid chunk : ℕ) (room : HasRoom c old) (own : MarksOwn c marks)
    (front : fs ≡ take mid old) (back : cs ≡ drop mid old) (at : mid ≡ front_count c) (noted_is : noted ≡ first_frames fs) (chunk_is : chunk ≡ get_or (frames_of cs) 0 0)
    (pages : fs_new ≡ with_pages fs (front_pages c (frames_of fs) chunk)) (members : (r : Run) → set.contains (with_frames marks.runs noted) r ≡ true → IsRun marks.frames r)
    (same : OtherBytes cs cs_new) (size : length cs_new ≡ length cs)
    (fits : length (blob_for c (frames_of fs) chunk) ≤ PAGE_BYTES) (bytes : HaveBytes cs_new)
    (written : (i : ℕ) → i < length cs → (d : FolioValue) → IsWritten marks.frames (with_frames marks.runs noted) i (next_first cs i) (get_or cs_new i d).bytes) where
  front_is : fs ≡ fronts c old
  front_is = front ∙ ap (λ (k : ℕ). take k old) at

  back_is : cs ≡ chunks c old
  back_is = back ∙ ap (λ (k : ℕ). drop k old) at

  pub are_written : AreWritten c marks (fronts c old) (chunks c old) fs_new cs_new
  are_written =
      let here : AreWritten c marks fs cs fs_new cs_new = record {
        pages = pages ∙ ap (λ (p : ℕ). with_pages fs (front_pages c (frames_of fs) p)) chunk_is;
        members = subst (λ (ps : List Pfn). (r : Run) → set.contains (with_frames marks.runs ps) r ≡ true → IsRun marks.frames r) noted_is members;
        same = same;
        size = size;
        fits = subst (λ (p : ℕ). length (blob_for c (frames_of fs) p) ≤ PAGE_BYTES) chunk_is fits;
        bytes = bytes;
        written = subst (λ (ps : List Pfn). (i : ℕ) → i < length cs → (d : FolioValue) → IsWritten marks.frames (with_frames marks.runs ps) i (next_first cs i) (get_or cs_new i d).bytes) noted_is written;
      } in
      subst (λ (l : List FolioValue). AreWritten c marks (fronts c old) l fs_new cs_new) back_is (subst (λ (l : List FolioValue). AreWritten c marks l cs fs_new cs_new) front_is here)

  pub all_same : OtherBytes old (fs_new ++ cs_new)
  all_same =
      let w = are_written in
      let ps = front_pages c (frames_of (fronts c old)) (get_or (frames_of (chunks c old)) 0 0) in
      two_parts (front_count c) old fs_new cs_new (ap length w.pages ∙ length_with_pages (fronts c old) ps)
      (subst (OtherBytes (fronts c old)) (sym w.pages) (other_bytes (fronts c old) ps)) w.same
