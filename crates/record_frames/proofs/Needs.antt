-- The frames that are needed, session by session.
use Rattle.std.proofs.Common.{◌≡◌, ℕ, ◌+◌, ◌≤◌, Bool, cond, List, [], ◌∷◌, length, map, IsTrue, refl, sym, ap, ◌∙◌, arith}
use Rattle.std.specs.Prelude.{nat_lt}
use Rattle.std.specs.List.{flat_map, sum_by, count_by}
use Rattle.std.proofs.lemmas.List.{length-map}
use Rattle.std.proofs.lemmas.List.Sums.{sum_by-cons, sum_by-append, sum-map}
use Rattle.ho_base.specs.ShapeRule.{is_layout}
use Rattle.ho_base.specs.declared.limits.TheConstants.{MAX_FRAMES}
use Rattle.ho_base.specs.declared.shape.Area.{Area}
use Rattle.ho_base.specs.declared.numbers.Pfn.{Pfn}
use Rattle.std.proofs.lemmas.Bool.Decides.{nat_tests}
use Rattle.ho_base.specs.BitmapCount.{bitmap_count, bitmaps_below, chunk_frames}
use Rattle.ho_events.specs.Lists.{upto, pieces}
use Rattle.ho_world.specs.Frozen.{CarriedFile as FileState, CarriedSession as SessionState, bitmaps, need}
use Rattle.record_frames.specs.Ram.{Ram}
use Rattle.record_frames.specs.State.{file_in, session_in, state_in, list_frames, session_frames}
use Rattle.record_frames.specs.declared.carried.CarriedFile.{CarriedFile}
use Rattle.record_frames.specs.declared.carried.CarriedSession.{CarriedSession}
use Rattle.record_frames.specs.declared.carried.Carried.{Carried}

-- the list frames of a file's state
abbrev lists : FileState → ℕ
lists f = pieces (length f.runs) 510

abbrev has_files : SessionState → Bool
has_files s = nat_lt 0 (length s.files)

of_file : (ram : Ram) (f : CarriedFile) → lists (file_in ram f) ≡ list_frames f
of_file ram f = ap (λ (n : ℕ). pieces n 510) (length-map f.runs (λ (p : Pfn). p.0))

of_files : (ram : Ram) (fs : List CarriedFile) → sum_by lists (map (file_in ram) fs) ≡ sum_by list_frames fs
of_files ram [] = refl
of_files ram (f ∷ fs) =
    sum_by-cons lists (file_in ram f) (map (file_in ram) fs)
    ∙ ap (λ (n : ℕ). n + sum_by lists (map (file_in ram) fs)) (of_file ram f)
    ∙ ap (λ (n : ℕ). list_frames f + n) (of_files ram fs)
    ∙ sym (sum_by-cons list_frames f fs)

of_session : (ram : Ram) (s : CarriedSession) → cond (has_files (session_in ram s)) 1 0 + sum_by lists (session_in ram s).files ≡ session_frames s
of_session ram s =
    ap (λ (n : ℕ). cond (nat_lt 0 n) 1 0 + sum_by lists (map (file_in ram) s.files)) (length-map s.files (file_in ram))
    ∙ ap (λ (n : ℕ). cond (nat_lt 0 (length s.files)) 1 0 + n) (of_files ram s.files)

abbrev states : Ram → List CarriedSession → List SessionState
states ram ss = map (session_in ram) ss

of_sessions : (ram : Ram) (ss : List CarriedSession)
    → count_by has_files (states ram ss) + sum_by lists (flat_map (λ s. s.files) (states ram ss)) ≡ sum_by session_frames ss
of_sessions ram [] = refl
of_sessions ram (s ∷ ss) =
    let rest = flat_map (λ (x : SessionState). x.files) (states ram ss) in
    let a = sum_by-cons (λ (x : SessionState). cond (has_files x) 1 0) (session_in ram s) (states ram ss) in
    let b = sum_by-append lists (session_in ram s).files rest in
    let c = of_session ram s in
    let d = of_sessions ram ss in
    let e = sum_by-cons session_frames s ss in
    omega (arith, a, b, c, d, e)

bitmaps_are : (n : ℕ) → bitmaps n ≡ bitmap_count n
unfolding upto bitmap_count bitmaps_below
bitmaps_are n = refl

-- a machine of 16,384 frames at most has few chunk frames
chunks_few : (n : ℕ) → n ≤ 16384 → chunk_frames n ≤ 6
unfolding bitmap_count bitmaps_below
chunks_few n h = omega (arith, h)

at_most : (n : ℕ) → (areas : List Area) → IsTrue (is_layout n areas) → n ≤ MAX_FRAMES
at_most n areas h = grind (arith, nat_tests)

pub few_chunks : (n : ℕ) → (areas : List Area) → IsTrue (is_layout n areas) → chunk_frames n ≤ 6
few_chunks n areas h = let limit = at_most n areas h in chunks_few n (omega (arith, limit))

pub needed : (ram : Ram) (c : Carried) → need (state_in ram c) ≡ 2 + sum_by session_frames c.sessions + chunk_frames c.shape.frames
needed ram c =
    let files = flat_map (λ (x : SessionState). x.files) (states ram c.sessions) in
    let a = of_sessions ram c.sessions in
    let b = sum-map lists files in
    let d = ap (λ (n : ℕ). pieces n 7) (bitmaps_are c.shape.frames) in
    omega (arith, a, b, d)
