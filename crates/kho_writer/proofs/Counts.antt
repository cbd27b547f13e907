-- How many frames the entry and the records take.
use Rattle.std.proofs.Common.{◌≡◌, ℕ, ◌+◌, ◌<◌, Bool, cond, List, [], ◌∷◌, length, map, refl, sym, ap, ◌∙◌, arith}
use Rattle.std.specs.Prelude.{nat_lt}
use Rattle.std.specs.List.{flat_map, sum_by, count_by}
use Rattle.std.proofs.lemmas.Bool.{lt-ltb}
use Rattle.std.proofs.lemmas.List.{length-map}
use Rattle.std.proofs.lemmas.List.Sums.{sum_by-cons, sum_by-append, sum-map}
use Rattle.ho_base.specs.BitmapCount.{bitmap_count, bitmaps_below, chunk_frames}
use Rattle.ho_base.specs.declared.numbers.Pfn.{Pfn}
use Rattle.ho_events.specs.Lists.{upto, pieces}
use Rattle.ho_world.specs.Frozen.{CarriedFile as FileState, CarriedSession as SessionState, bitmaps, need}
use Rattle.record_frames.specs.Ram.{Ram}
use Rattle.record_frames.specs.Rules.{is_empty}
use Rattle.record_frames.specs.State.{file_in, session_in, state_in, list_frames}
use Rattle.record_frames.specs.Writing.{file_frames, files_in, files_of_sessions, lists_of_files}
use Rattle.record_frames.specs.declared.carried.Carried.{Carried}
use Rattle.record_frames.specs.declared.carried.CarriedFile.{CarriedFile}
use Rattle.record_frames.specs.declared.carried.CarriedSession.{CarriedSession}
use Rattle.kho_writer.specs.Folios.{front_count}

abbrev lists : FileState → ℕ
lists f = pieces (length f.runs) 510

abbrev has_files : SessionState → Bool
has_files s = nat_lt 0 (length s.files)

abbrev states : Ram → List CarriedSession → List SessionState
states ram ss = map (session_in ram) ss

abbrev one_if : Bool → ℕ
one_if b = cond b 1 0

abbrev frames_for : List CarriedFile → ℕ
frames_for fs = cond (is_empty fs) 0 1

-- a session has a file frame exactly where it has files
one_frame : (ram : Ram) (fs : List CarriedFile) → one_if (nat_lt 0 (length (map (file_in ram) fs))) ≡ frames_for fs
one_frame ram [] = refl
one_frame ram (f ∷ fs) =
    let some : 0 < length (file_in ram f ∷ map (file_in ram) fs) = omega arith in
    ap one_if (lt-ltb 0 (length (file_in ram f ∷ map (file_in ram) fs)) some)

frames_same : (ram : Ram) (ss : List CarriedSession) → count_by has_files (states ram ss) ≡ files_of_sessions ss
frames_same ram [] = refl
frames_same ram (s ∷ ss) =
    let a = sum_by-cons (λ (x : SessionState). one_if (has_files x)) (session_in ram s) (states ram ss) in
    let b = one_frame ram s.files in
    let d = frames_same ram ss in
    let e = sum_by-cons file_frames s ss in
    omega (arith, a, b, d, e)

of_file : (ram : Ram) (f : CarriedFile) → lists (file_in ram f) ≡ list_frames f
of_file ram f = ap (λ (n : ℕ). pieces n 510) (length-map f.runs (λ (p : Pfn). p.0))

of_files : (ram : Ram) (fs : List CarriedFile) → sum_by lists (map (file_in ram) fs) ≡ lists_of_files fs
of_files ram [] = refl
of_files ram (f ∷ fs) =
    sum_by-cons lists (file_in ram f) (map (file_in ram) fs)
    ∙ ap (λ (n : ℕ). n + sum_by lists (map (file_in ram) fs)) (of_file ram f)
    ∙ ap (λ (n : ℕ). list_frames f + n) (of_files ram fs)
    ∙ sym (sum_by-cons list_frames f fs)

lists_same : (ram : Ram) (ss : List CarriedSession) → sum_by lists (flat_map (λ s. s.files) (states ram ss)) ≡ lists_of_files (files_in ss)
lists_same ram [] = refl
lists_same ram (s ∷ ss) =
    let a = sum_by-append lists (map (file_in ram) s.files) (flat_map (λ (x : SessionState). x.files) (states ram ss)) in
    let b = of_files ram s.files in
    let d = lists_same ram ss in
    let e = sum_by-append list_frames s.files (files_in ss) in
    omega (arith, a, b, d, e)

bitmaps_are : (n : ℕ) → bitmaps n ≡ bitmap_count n
unfolding upto bitmap_count bitmaps_below
bitmaps_are n = refl

pub needed : (ram : Ram) (c : Carried) → need (state_in ram c) ≡ front_count c + chunk_frames c.shape.frames
needed ram c =
    let files = flat_map (λ (x : SessionState). x.files) (states ram c.sessions) in
    let a = frames_same ram c.sessions in
    let b = sum-map lists files in
    let d = lists_same ram c.sessions in
    let e = ap (λ (n : ℕ). pieces n 7) (bitmaps_are c.shape.frames) in
    omega (arith, a, b, d, e)

-- what is left of the need without the chunk frames
pub left_over : (ram : Ram) (c : Carried) (all chunks : ℕ) → all ≡ need (state_in ram c) → chunks ≡ chunk_frames c.shape.frames → all ≡ front_count c + chunks
left_over ram c all chunks a b = omega (arith, a, b, needed ram c)
