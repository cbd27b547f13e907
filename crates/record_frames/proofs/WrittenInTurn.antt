-- The list frames and the file frames of sessions in turn.
use Rattle.std.proofs.Common.{◌≡◌, ℕ, ◌+◌, ◌-◌, ◌≤◌, ◌<◌, List, [], ◌∷◌, ◌++◌, length, map, take, drop, get_or, set, refl, sym, ap, ◌∙◌, arith}
use Rattle.std.proofs.lemmas.List.{append_assoc, append-nil, length-append, length-map, length-drop, take_all, take_rest, take-map, drop-map, drop-drop, take-append-drop, flat_map_more}
use Rattle.std.proofs.lemmas.List.Sums.{sum_by-cons, sum_by-append}
use Rattle.std.specs.List.{flat_map}
use borrow.Rule.Slice.PartMut.{put_mid}
use Rattle.phys_frames.specs.Memory.{FolioValue}
use Rattle.record_frames.specs.Ram.{Page}
use Rattle.record_frames.specs.Sheets.{chain_pages, map_items, list_pages, sheet_bytes, file_slot, file_slot_bytes, FileRecord, SessionRecord}
use Rattle.record_frames.specs.State.{list_frames}
use Rattle.record_frames.specs.Writing.{holding, with_pages, frames_of, file_sheets_in, session_record, session_records, file_record, file_records, file_pages, files_in, file_frames, files_of_sessions, lists_of_files, lists_of_session, lists_of_sessions}
use Rattle.record_frames.specs.declared.carried.CarriedFile.{CarriedFile}
use Rattle.record_frames.specs.declared.carried.CarriedSession.{CarriedSession}
use Rattle.record_frames.proofs.WrittenPages.{frames_with_pages, put_more, one_page_more, at_behind_pages}
use Rattle.record_frames.proofs.WrittenLists.{pages_of_files}
use Rattle.record_frames.proofs.WrittenFiles.{records_long}
use Rattle.record_frames.proofs.WrittenSessions.{sessions_more, one_session_more}

pub flat_map_two : {A B : Type 0} (f : A → List B) (xs ys : List A) → flat_map f (xs ++ ys) ≡ flat_map f xs ++ flat_map f ys
flat_map_two f [] ys = refl
flat_map_two f (x ∷ xs) ys = ap (λ l. f x ++ l) (flat_map_two f xs ys) ∙ sym (append_assoc (f x) (flat_map f xs) (flat_map f ys))

pub records_two : (ats : List ℕ) (xs ys : List CarriedFile) → file_records ats (xs ++ ys) ≡ file_records ats xs ++ file_records (drop (lists_of_files xs) ats) ys
records_two ats [] ys = refl
records_two ats (x ∷ xs) ys =
    ap (λ (l : List FileRecord). file_record ats x ∷ l)
    (records_two (drop (list_frames x) ats) xs ys
    ∙ ap (λ (l : List ℕ). file_records (drop (list_frames x) ats) xs ++ file_records l ys)
    (drop-drop (lists_of_files xs) (list_frames x) ats ∙ ap (λ (k : ℕ). drop k ats) (sym (sum_by-cons list_frames x xs))))

-- the files of one more session
in_more : (sessions : List CarriedSession) (i : ℕ) (x : CarriedSession) → i < length sessions → x ≡ get_or sessions i x → files_in (take (i + 1) sessions) ≡ files_in (take i sessions) ++ x.files
in_more sessions i x lt e = ap files_in (one_session_more sessions i x lt e) ∙ sym (flat_map_more (λ (s : CarriedSession). s.files) [] (take i sessions) x)

pub lists_in_more : (sessions : List CarriedSession) (i : ℕ) (x : CarriedSession) → i < length sessions → x ≡ get_or sessions i x
    → lists_of_files (files_in (take (i + 1) sessions)) ≡ lists_of_files (files_in (take i sessions)) + lists_of_files x.files
lists_in_more sessions i x lt e = ap lists_of_files (in_more sessions i x lt e) ∙ sum_by-append list_frames (files_in (take i sessions)) x.files

pub lists_in_within : (sessions : List CarriedSession) (i : ℕ) → lists_of_files (files_in (take i sessions)) ≤ lists_of_files (files_in sessions)
lists_in_within sessions i =
    let all = ap files_in (take-append-drop i sessions) in
    let two = flat_map_two (λ (s : CarriedSession). s.files) (take i sessions) (drop i sessions) in
    let sum = sum_by-append list_frames (files_in (take i sessions)) (files_in (drop i sessions)) in
    omega (arith, ap lists_of_files (sym two ∙ all), sum)

-- the list frames of one more session
pub session_lists_step : (fs gs ys : List FolioValue) (sessions : List CarriedSession) (i list k : ℕ) (x : CarriedSession) (files : List CarriedFile) → i < length sessions → x ≡ get_or sessions i x
    → files ≡ x.files → lists_of_files (files_in sessions) ≤ length fs → gs ≡ with_pages fs (flat_map list_pages (file_records (frames_of fs) (files_in (take i sessions))))
    → list ≡ lists_of_files (files_in (take i sessions)) → k ≡ length gs - list → length gs ≡ length fs
    → ys ≡ with_pages (take k (drop list gs)) (flat_map list_pages (file_records (frames_of (take k (drop list gs))) files))
    → put_mid list k gs ys ≡ with_pages fs (flat_map list_pages (file_records (frames_of fs) (files_in (take (i + 1) sessions))))
session_lists_step fs gs ys sessions i list k x files lt is own enough before list_is k_is same done =
    let ats = frames_of fs in
    let start = lists_of_files (files_in (take i sessions)) in
    let ps = flat_map list_pages (file_records ats (files_in (take i sessions))) in
    let many : length ats ≡ length fs = length-map fs (λ (f : FolioValue). f.first.0) in
    let so_far = pages_of_files ats (files_in (take i sessions)) (omega (arith, many, enough, lists_in_within sessions i)) in
    let room : start + lists_of_files x.files ≤ length fs = omega (arith, lists_in_more sessions i x lt is, lists_in_within sessions (i + 1), enough) in
    let left : length (drop start ats) ≤ k = omega (arith, length-drop start ats, many, k_is, same, list_is) in
    let nums : frames_of (take k (drop list gs)) ≡ drop start ats =
    sym (take-map (λ (f : FolioValue). f.first.0) k (drop list gs))
    ∙ ap (take k) (sym (drop-map (λ (f : FolioValue). f.first.0) list gs) ∙ ap (drop list) (ap frames_of before ∙ frames_with_pages fs ps) ∙ ap (λ (n : ℕ). drop n ats) list_is)
    ∙ take_all k (drop start ats) left in
    let long = pages_of_files (drop start ats) x.files (omega (arith, length-drop start ats, many, room)) in
    let qs = flat_map list_pages (file_records (drop start ats) x.files) in
    put_more fs gs ys ps qs list k before (so_far ∙ sym list_is) (omega (arith, room, list_is)) (omega (arith, long, k_is, same, list_is, room))
    (done ∙ (λ j. with_pages (take k (drop list gs)) (flat_map list_pages (file_records (nums j) (own j)))))
    ∙ ap (with_pages fs)
    (sym (flat_map_two list_pages (file_records ats (files_in (take i sessions))) (file_records (drop start ats) x.files))
    ∙ ap (flat_map list_pages) (sym (records_two ats (files_in (take i sessions)) x.files) ∙ ap (file_records ats) (sym (in_more sessions i x lt is))))

-- the file frame of one more session
frame_count : (ats lists : List ℕ) (files : List CarriedFile) (name : List ℕ)
    → length (chain_pages 128 file_slot_bytes (map_items file_slot (file_sheets_in ats (file_records lists files)))) ≡ file_frames (record { name = name; files = files })
frame_count ats lists [] name = refl
frame_count ats lists (f ∷ fs) name = refl

one_frame : (ats : List ℕ) (rs : List FileRecord) → 0 < length rs
    → chain_pages 128 file_slot_bytes (map_items file_slot (file_sheets_in ats rs)) ≡ record { at = get_or ats 0 0; bytes = sheet_bytes 128 file_slot_bytes 0 (map file_slot rs) } ∷ []
one_frame ats [] lt = absurd (omega (arith, lt))
one_frame ats (r ∷ rs) lt = refl

pub frames_count : (ats lists : List ℕ) (ss : List CarriedSession) → length (file_pages (session_records ats lists ss)) ≡ files_of_sessions ss
frames_count ats lists [] = refl
frames_count ats lists (s ∷ ss) =
    length-append (chain_pages 128 file_slot_bytes (map_items file_slot (file_sheets_in ats (file_records lists s.files)))) (file_pages (session_records (drop (file_frames s) ats) (drop (lists_of_session s) lists) ss))
    ∙ (λ j. frame_count ats lists s.files s.name j + frames_count (drop (file_frames s) ats) (drop (lists_of_session s) lists) ss j) ∙ sym (sum_by-cons file_frames s ss)

pages_one_more : (ats lists : List ℕ) (sessions : List CarriedSession) (i : ℕ) (x : CarriedSession) → i < length sessions → x ≡ get_or sessions i x
    → file_pages (session_records ats lists (take (i + 1) sessions)) ≡ file_pages (session_records ats lists (take i sessions))
    ++ chain_pages 128 file_slot_bytes (map_items file_slot (file_sheets_in (drop (files_of_sessions (take i sessions)) ats) (file_records (drop (lists_of_sessions (take i sessions)) lists) x.files)))
pages_one_more ats lists sessions i x lt e =
    ap (λ (l : List CarriedSession). file_pages (session_records ats lists l)) (one_session_more sessions i x lt e)
    ∙ ap file_pages (sessions_more ats lists (take i sessions) x)
    ∙ sym (flat_map_more (λ (s : SessionRecord). chain_pages 128 file_slot_bytes (map_items file_slot s.files)) [] (session_records ats lists (take i sessions))
    (session_record (drop (files_of_sessions (take i sessions)) ats) (drop (lists_of_sessions (take i sessions)) lists) x))

pub no_frame_more : (ats lists : List ℕ) (sessions : List CarriedSession) (i : ℕ) (x : CarriedSession) → i < length sessions → x ≡ get_or sessions i x → x.files ≡ []
    → file_pages (session_records ats lists (take (i + 1) sessions)) ≡ file_pages (session_records ats lists (take i sessions))
no_frame_more ats lists sessions i x lt e none =
    pages_one_more ats lists sessions i x lt e
    ∙ ap (λ (fs : List CarriedFile). file_pages (session_records ats lists (take i sessions))
    ++ chain_pages 128 file_slot_bytes (map_items file_slot (file_sheets_in (drop (files_of_sessions (take i sessions)) ats) (file_records (drop (lists_of_sessions (take i sessions)) lists) fs)))) none
    ∙ append-nil (file_pages (session_records ats lists (take i sessions)))

pub lists_of_more : (sessions : List CarriedSession) (i : ℕ) (x : CarriedSession) → i < length sessions → x ≡ get_or sessions i x
    → lists_of_sessions (take (i + 1) sessions) ≡ lists_of_sessions (take i sessions) + lists_of_session x
lists_of_more sessions i x lt e =
    let a = ap lists_of_sessions (one_session_more sessions i x lt e) in
    let b = sum_by-append lists_of_session (take i sessions) (x ∷ []) in
    omega (arith, a, b)

pub lists_of_within : (sessions : List CarriedSession) (i : ℕ) → lists_of_sessions (take i sessions) ≤ lists_of_sessions sessions
lists_of_within sessions i = omega (arith, sum_by-append lists_of_session (take i sessions) (drop i sessions), ap lists_of_sessions (take-append-drop i sessions))

pub files_of_within : (sessions : List CarriedSession) (i : ℕ) → files_of_sessions (take i sessions) ≤ files_of_sessions sessions
files_of_within sessions i = omega (arith, sum_by-append file_frames (take i sessions) (drop i sessions), ap files_of_sessions (take-append-drop i sessions))

pub with_no_files : (x : CarriedSession) → x.files ≡ [] → (file_frames x ≡ 0) × (lists_of_session x ≡ 0)
with_no_files x e = (ap (λ (fs : List CarriedFile). file_frames (record { name = x.name; files = fs })) e, ap lists_of_files e)

some_frame : (name : List ℕ) (files : List CarriedFile) → 0 < length files → file_frames (record { name = name; files = files }) ≡ 1
some_frame name [] lt = absurd (omega (arith, lt))
some_frame name (f ∷ fs) lt = refl

pub with_files : (x : CarriedSession) → 0 < length x.files → file_frames x ≡ 1
with_files x lt = some_frame x.name x.files lt

pub one_frame_more : (fs gs hs : List FolioValue) (lent : List FolioValue) (sessions : List CarriedSession) (i at list : ℕ) (x : CarriedSession) (own : List CarriedFile) (h d : FolioValue)
    → i < length sessions → x ≡ get_or sessions i x → own ≡ x.files → 0 < length own → at ≡ files_of_sessions (take i sessions) → at < length fs → list ≡ lists_of_sessions (take i sessions)
    → gs ≡ with_pages fs (file_pages (session_records (frames_of fs) (frames_of lent) (take i sessions))) → hs ≡ set gs at h
    → h ≡ holding (get_or gs at d) (sheet_bytes 128 file_slot_bytes 0 (map file_slot (file_records (frames_of (take (length lent - list) (drop list lent))) own)))
    → hs ≡ with_pages fs (file_pages (session_records (frames_of fs) (frames_of lent) (take (i + 1) sessions)))
one_frame_more fs gs hs lent sessions i at list x own h d lt e own_is some at_is room list_is before set_is h_is =
    let ats = frames_of fs in
    let lists = frames_of lent in
    let ps = file_pages (session_records ats lists (take i sessions)) in
    let rs = file_records (drop (lists_of_sessions (take i sessions)) lists) x.files in
    let page : Page = record { at = get_or (drop (files_of_sessions (take i sessions)) ats) 0 0; bytes = sheet_bytes 128 file_slot_bytes 0 (map file_slot rs) } in
    let count : length ps ≡ at = frames_count ats lists (take i sessions) ∙ sym at_is in
    let listed : frames_of (take (length lent - list) (drop list lent)) ≡ drop (lists_of_sessions (take i sessions)) lists =
    ap frames_of (take_rest lent list) ∙ sym (drop-map (λ (f : FolioValue). f.first.0) list lent) ∙ ap (λ (k : ℕ). drop k lists) list_is in
    let old : get_or gs at d ≡ get_or fs at d = ap (λ (l : List FolioValue). get_or l at d) before ∙ at_behind_pages fs ps at d (omega (arith, count)) in
    let some' : 0 < length rs = omega (arith, records_long (drop (lists_of_sessions (take i sessions)) lists) x.files, some, ap length own_is) in
    let more : file_pages (session_records ats lists (take (i + 1) sessions)) ≡ ps ++ page ∷ [] =
    pages_one_more ats lists sessions i x lt e ∙ ap (λ (l : List Page). ps ++ l) (one_frame (drop (files_of_sessions (take i sessions)) ats) rs some') in
    let lt' : length ps < length fs = omega (arith, count, room) in
    let step : with_pages fs (ps ++ page ∷ []) ≡ set (with_pages fs ps) at (holding (get_or fs at d) page.bytes) =
    one_page_more fs ps page d lt' ∙ ap (λ (k : ℕ). set (with_pages fs ps) k (holding (get_or fs k d) page.bytes)) count in
    set_is
    ∙ (λ j. set (before j) at ((h_is ∙ (λ m. holding (old m) (sheet_bytes 128 file_slot_bytes 0 (map file_slot (file_records (listed m) (own_is m)))))) j))
    ∙ sym step ∙ ap (with_pages fs) (sym more)
