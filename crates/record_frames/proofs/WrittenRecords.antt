-- All record frames that are written.
use Rattle.std.proofs.Common.{◌≡◌, ℕ, ◌+◌, ◌≤◌, List, [], ◌∷◌, ◌++◌, length, map, take, drop, get_or, set, refl, sym, ap, ◌∙◌, arith}
use Rattle.std.proofs.lemmas.List.{length-take-le, take-map, drop-map, take-append-drop}
use Rattle.std.proofs.lemmas.List.Sums.{sum_by-cons, sum_by-append}
use Rattle.std.specs.List.{flat_map}
use Rattle.phys_frames.specs.Memory.{FolioValue}
use Rattle.record_frames.specs.Ram.{Page}
use Rattle.record_frames.specs.Sheets.{list_pages, sheet_bytes, session_slot, session_slot_bytes}
use Rattle.record_frames.specs.State.{list_frames}
use Rattle.record_frames.specs.Writing.{holding, with_pages, frames_of, session_records, file_records, file_pages, files_in, files_of_sessions, lists_of_files, lists_of_session, lists_of_sessions, pages_in_use}
use Rattle.record_frames.specs.declared.carried.CarriedSession.{CarriedSession}
use Rattle.record_frames.proofs.WrittenInTurn.{frames_count}

-- list frames by sessions, and by files
pub lists_same : (ss : List CarriedSession) → lists_of_sessions ss ≡ lists_of_files (files_in ss)
lists_same [] = refl
lists_same (s ∷ ss) =
    let a = sum_by-cons lists_of_session s ss in
    let b = sum_by-append list_frames s.files (files_in ss) in
    let c = lists_same ss in
    omega (arith, a, b, c)

-- pages of two parts of folios
pages_of_two : (a b : List FolioValue) (ps qs : List Page) → length a ≡ length ps → with_pages (a ++ b) (ps ++ qs) ≡ with_pages a ps ++ with_pages b qs
pages_of_two [] b [] qs e = refl
pages_of_two [] b (p ∷ ps) qs e = absurd (omega (arith, e))
pages_of_two (f ∷ a) b [] qs e = absurd (omega (arith, e))
pages_of_two (f ∷ a) b (p ∷ ps) qs e = ap (λ (l : List FolioValue). holding f p.bytes ∷ l) (pages_of_two a b ps qs (omega (arith, e)))

abbrev session_bytes : List ℕ → List ℕ → List CarriedSession → List ℕ
session_bytes files lists sessions = sheet_bytes 128 session_slot_bytes 0 (map session_slot (session_records files lists sessions))

abbrev frame_pages : List ℕ → List ℕ → List CarriedSession → List Page
frame_pages files lists sessions = file_pages (session_records files lists sessions)

abbrev list_frame_pages : List ℕ → List CarriedSession → List Page
list_frame_pages lists sessions = flat_map list_pages (file_records lists (files_in sessions))

pub written_records : (fs first rest files lists files' lists' : List FolioValue) (sessions : List CarriedSession) (count : ℕ) (h x : FolioValue) → first ≡ take 1 fs → rest ≡ drop 1 fs
    → files ≡ take count rest → lists ≡ drop count rest → count ≡ files_of_sessions sessions → 1 + count ≤ length fs
    → h ≡ holding (get_or first 0 x) (session_bytes (frames_of files) (frames_of lists) sessions)
    → files' ≡ with_pages files (frame_pages (frames_of files) (frames_of lists) sessions) → lists' ≡ with_pages lists (list_frame_pages (frames_of lists) sessions)
    → set first 0 h ++ (files' ++ lists') ≡ with_pages fs (pages_in_use (frames_of fs) sessions)
unfolding pages_in_use
written_records [] first rest files lists files' lists' sessions count h x first_is rest_is files_is lists_is count_is room h_is fw lw = absurd (omega (arith, room))
written_records (f ∷ fs) first rest files lists files' lists' sessions count h x first_is rest_is files_is lists_is count_is room h_is fw lw =
    let n = files_of_sessions sessions in
    let ats = frames_of fs in
    let mine : files ≡ take n fs = files_is ∙ (λ j. take (count_is j) (rest_is j)) in
    let others : lists ≡ drop n fs = lists_is ∙ (λ j. drop (count_is j) (rest_is j)) in
    let a : frames_of files ≡ take n ats = ap frames_of mine ∙ sym (take-map (λ (g : FolioValue). g.first.0) n fs) in
    let b : frames_of lists ≡ drop n ats = ap frames_of others ∙ sym (drop-map (λ (g : FolioValue). g.first.0) n fs) in
    let ps = frame_pages (take n ats) (drop n ats) sessions in
    let qs = list_frame_pages (drop n ats) sessions in
    let head : h ≡ holding f (session_bytes (take n ats) (drop n ats) sessions) =
    h_is ∙ (λ j. holding (get_or (first_is j) 0 x) (session_bytes (a j) (b j) sessions)) in
    let left : files' ≡ with_pages (take n fs) ps = fw ∙ (λ j. with_pages (mine j) (frame_pages (a j) (b j) sessions)) in
    let right : lists' ≡ with_pages (drop n fs) qs = lw ∙ (λ j. with_pages (others j) (list_frame_pages (b j) sessions)) in
    let long : length (take n fs) ≡ length ps =
    length-take-le n fs (omega (arith, room, count_is)) ∙ sym (frames_count (take n ats) (drop n ats) sessions) in
    (λ j. set (first_is j) 0 (head j) ++ (left j ++ right j))
    ∙ ap (λ (l : List FolioValue). holding f (session_bytes (take n ats) (drop n ats) sessions) ∷ l)
    (sym (pages_of_two (take n fs) (drop n fs) ps qs long) ∙ ap (λ (l : List FolioValue). with_pages l (ps ++ qs)) (take-append-drop n fs))
