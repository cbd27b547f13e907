-- What written folios carry.
use Rattle.std.proofs.Common.{◌≡◌, ℕ, ◌+◌, ◌<◌, true, List, [], ◌∷◌, ◌++◌, length, map, drop, get_or, refl, sym, ap, subst, ◌∙◌, arith}
use Rattle.std.specs.FinSet as set
use Rattle.std.specs.List.{list_all, flat_map}
use Rattle.std.proofs.lemmas.List.{length-map, length-take-le, length-drop, get_or-map, map-append}
use Rattle.ho_base.specs.BitmapCount.{chunk_frames}
use Rattle.folio_bitmaps.specs.Chunks.{Element}
use Rattle.folio_bitmaps.specs.Runs.{Runs, Marks, IsRun}
use Rattle.folio_bitmaps.specs.Written.{IsWritten, next_first, with_frames}
use Rattle.phys_frames.specs.Memory.{FolioValue, first_frames}
use Rattle.record_frames.specs.Ram.{Ram, Begins, is_frame}
use Rattle.record_frames.specs.Sheets.{Sheet, first_of, numbers_of}
use Rattle.record_frames.specs.Kept.{devices, bound_frames, bound_pages}
use Rattle.record_frames.specs.Carries.{HavePages, Carries}
use Rattle.record_frames.specs.Owners.{given}
use Rattle.record_frames.specs.State.{bound_among, state_in}
use Rattle.record_frames.specs.Writing.{frames_of, files_in}
use Rattle.record_frames.specs.Written.{HoldPages}
use Rattle.record_frames.specs.declared.carried.Carried.{Carried}
use Rattle.record_frames.proofs.WrittenBytes.{length_framed}
use Rattle.record_frames.proofs.WrittenPages.{frames_with_pages}
use Rattle.kho_laws.specs.Carrying.{runs_of_file, to_mark, CanHold, MarksJust, HoldKept, WrittenCarry}
use Rattle.kho_laws.specs.Marks.{MarkedAfter}
use Rattle.kho_writer.specs.Written.{HoldBytes, HoldWritten, IsChainOf, WrittenIsChain}
use Rattle.kho_writer.specs.Folios.{front_count, fronts, chunks, HasRoom, MarksOwn, HoldFolios, blob_for, front_pages, AreWritten, FoliosCarry}
use Rattle.kho_writer.proofs.PageNumbers.{numbers, numbers_in_use}
use Rattle.kho_writer.proofs.FolioPages.{pages_held, begins_framed, held_front, held_back, numbered_frames, some_of}
use Rattle.kho_writer.proofs.ChunkNumbers.{frames_behind, apart_behind, first_frame, frame_below}

first_number : (chain : List (Sheet Element)) → first_of chain ≡ get_or (numbers_of chain) 0 0
first_number [] = refl
first_number (s ∷ chain) = refl

head_and_rest : (xs : List ℕ) → 0 < length xs → get_or xs 0 0 ∷ drop 1 xs ≡ xs
head_and_rest [] lt = absurd (omega (arith, lt))
head_and_rest (x ∷ xs) lt = refl

first_of_two : (xs ys : List ℕ) → 0 < length xs → get_or (xs ++ ys) 0 0 ≡ get_or xs 0 0
first_of_two [] ys lt = absurd (omega (arith, lt))
first_of_two (x ∷ xs) ys lt = refl

module _ (c : Carried) (marks : Marks) (old fronts_new chunks_new : List FolioValue) (room : HasRoom c old) (own : MarksOwn c marks)
    (w : AreWritten c marks (fronts c old) (chunks c old) fronts_new chunks_new) (ram : Ram) (count : ram.count ≡ c.shape.frames)
    (held : HoldFolios ram (fronts_new ++ chunks_new)) (bounds : HavePages ram (bound_pages (map (bound_among c.bounds) devices))) where
  abbrev fs : List FolioValue
  fs = fronts c old

  abbrev cs : List FolioValue
  cs = chunks c old

  abbrev ats : List ℕ
  ats = frames_of fs

  abbrev chs : List ℕ
  chs = frames_of cs

  abbrev runs : Runs
  runs = with_frames marks.runs (first_frames fs)

  fronts_long : length ats ≡ front_count c
  fronts_long = length-map fs (λ (f : FolioValue). f.first.0) ∙ length-take-le (front_count c) old (omega (arith, room.count))

  chunks_long : length cs ≡ chunk_frames ram.count
  chunks_long = length-drop (front_count c) old ∙ omega (arith, room.count, ap chunk_frames count)

  entry_frame : is_frame ram.count (get_or ats 0 0) ≡ true
  entry_frame =
      ap (λ (n : ℕ). is_frame n (get_or ats 0 0)) count
      ∙ first_frame c.shape.frames ats (given (bound_frames (map (bound_among c.bounds) devices))) (flat_map runs_of_file (files_in c.sessions)) _ (omega (arith, fronts_long)) room.hold.runs

  -- ---- the chain

  page_is : (i d : ℕ) → (lt : i < length cs) → (f : FolioValue) → ram.page (get_or chs i d) ≡ (get_or chunks_new i f).bytes
  page_is i d lt f =
      let there : get_or chs i d ≡ (get_or cs i f).first.0 = get_or-map (λ (g : FolioValue). g.first.0) cs i f d lt in
      let same : (get_or chunks_new i f).first.0 ≡ (get_or cs i f).first.0 = ap (λ (g : FolioValue). g.first.0) (w.same i lt f) in
      ap ram.page (there ∙ sym same) ∙ held_back ram fronts_new chunks_new held i f (omega (arith, lt, w.size))

  hold_written : HoldWritten ram runs chs
  hold_written = record {
    count = length-map cs (λ (f : FolioValue). f.first.0) ∙ chunks_long;
    frames = ap (λ (n : ℕ). list_all (is_frame n) chs) count ∙ frames_behind c.shape.frames (to_mark c ats) chs room.hold.runs;
    once = apart_behind (to_mark c ats) chs room.hold.apart;
    pages = λ i d lt.
        let lt' : i < length cs = omega (arith, lt, length-map cs (λ (f : FolioValue). f.first.0)) in
        let f = some_of cs (omega (arith, lt')) in
        subst (λ (page : List ℕ). IsWritten ram.count runs i (get_or chs (i + 1) 0) page) (sym (page_is i d lt' f))
        (subst (λ (n : ℕ). IsWritten n runs i (next_first cs i) (get_or chunks_new i f).bytes) (own.frames ∙ sym count) (w.written i lt' f));
    members = λ r t. subst (λ (n : ℕ). IsRun n r) (own.frames ∙ sym count) (w.members r t);
  }

  hold_bytes : HoldBytes ram chs
  hold_bytes i d lt j =
      let lt' : i < length cs = omega (arith, lt, length-map cs (λ (f : FolioValue). f.first.0)) in
      let f = some_of cs (omega (arith, lt')) in
      subst (λ (page : List ℕ). get_or page j 0 < 256) (sym (page_is i d lt' f)) (w.bytes i (omega (arith, lt', w.size)) f j)

  -- ---- the entry and the records

  chunk : ℕ
  chunk = get_or chs 0 0

  page_numbers : numbers (front_pages c ats (get_or chs 0 0)) ≡ ats
  page_numbers =
      ap (λ (l : List ℕ). get_or ats 0 0 ∷ l) (numbers_in_use (drop 1 ats) c.sessions (omega (arith, length-drop 1 ats, fronts_long)))
      ∙ head_and_rest ats (omega (arith, fronts_long))

  front_held : HoldPages ram (front_pages c ats (get_or chs 0 0))
  front_held = pages_held ram fs (front_pages c ats (get_or chs 0 0)) page_numbers (subst (HoldFolios ram) w.pages (held_front ram fronts_new chunks_new held))

  module _ (law : WrittenIsChain) (after : MarkedAfter) where
    written : IsChainOf ram runs chs
    written = law ram runs chs (omega (arith, frame_below ram.count (get_or ats 0 0) entry_frame)) hold_bytes hold_written

    marks_just : MarksJust c ats written.chain
    marks_just r small =
        written.marks r small
        ∙ sym (ap (λ ps. set.contains (with_frames marks.runs ps) r) (numbered_frames fs))
        ∙ after c ats marks.runs own.runs r

    first_chunk : get_or chs 0 0 ≡ first_of written.chain
    first_chunk = sym (first_number written.chain ∙ ap (λ (l : List ℕ). get_or l 0 0) written.numbers)

    hold_kept : HoldKept ram c ats written.chain
    hold_kept = record {
      frame = ap length front_held.0 ∙ length_framed (blob_for c ats (get_or chs 0 0)) w.fits;
      entry = subst (λ (p : ℕ). Begins (ram.page (get_or ats 0 0)) (blob_for c ats p)) first_chunk (begins_framed (ram.page (get_or ats 0 0)) (blob_for c ats (get_or chs 0 0)) front_held.0);
      records = front_held.1;
      chunks = written.spelled;
      bounds = bounds;
    }

    pub carry_all : WrittenCarry → Carries ram (get_or (frames_of (fronts_new ++ chunks_new)) 0 0) (state_in ram c)
    carry_all carry =
        let same : frames_of fronts_new ≡ ats = ap frames_of w.pages ∙ frames_with_pages fs (front_pages c ats (get_or chs 0 0)) in
        let entry : get_or ats 0 0 ≡ get_or (frames_of (fronts_new ++ chunks_new)) 0 0 =
        sym (ap (λ (l : List ℕ). get_or l 0 0) (map-append (λ (f : FolioValue). f.first.0) fronts_new chunks_new)
        ∙ first_of_two (frames_of fronts_new) (frames_of chunks_new) (omega (arith, ap length same, fronts_long)) ∙ ap (λ (l : List ℕ). get_or l 0 0) same) in
        subst (λ (p : ℕ). Carries ram p (state_in ram c)) entry
        (carry ram c ats written.chain count room.can (subst (CanHold c ats) (sym written.numbers) room.hold) marks_just hold_kept)

pub folios_carry : WrittenIsChain → MarkedAfter → WrittenCarry → FoliosCarry
folios_carry law after carry c marks old fronts_new chunks_new room own w ram count held bounds =
    carry_all c marks old fronts_new chunks_new room own w ram count held bounds law after carry
