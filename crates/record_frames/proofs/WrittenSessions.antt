-- The session frame that is written.
use Rattle.std.proofs.Common.{◌≡◌, ℕ, suc, ◌+◌, ◌*◌, ◌≤◌, ◌<◌, List, [], ◌∷◌, ◌++◌, length, map, take, drop, replicate, get_or, refl, sym, ap, ◌∙◌, arith}
use Rattle.std.proofs.lemmas.List.{append_assoc, append-nil, length-append, length-map, take_all, take_more, drop-drop, map-append, flat_map_more}
use Rattle.std.proofs.lemmas.List.Sums.{sum_by-cons, sum_by-append}
use Rattle.std.specs.List.{flat_map}
use Rattle.phys_frames.specs.Memory.{FolioValue, with_bytes, written}
use Rattle.record_frames.specs.Sheets.{number, sheet_bytes, first_of, items_of, session_slot, session_slot_bytes, SessionRecord, SessionSlot, FileRecord}
use Rattle.record_frames.specs.Writing.{holding, session_slot_of, session_record, session_records, file_records, file_sheets_in, file_frames, files_of_sessions, lists_of_session, lists_of_sessions}
use Rattle.record_frames.specs.declared.carried.CarriedFile.{CarriedFile}
use Rattle.record_frames.specs.declared.carried.CarriedSession.{CarriedSession}
use Rattle.record_frames.proofs.WrittenBytes.{holds_more, framed_zeros}
use Rattle.record_frames.proofs.WrittenFiles.{records_long}

-- the records of one more session
pub sessions_more : (ats lists : List ℕ) (xs : List CarriedSession) (s : CarriedSession)
    → session_records ats lists (xs ++ s ∷ []) ≡ session_records ats lists xs ++ session_record (drop (files_of_sessions xs) ats) (drop (lists_of_sessions xs) lists) s ∷ []
sessions_more ats lists [] s = refl
sessions_more ats lists (x ∷ xs) s =
    let a : drop (files_of_sessions xs) (drop (file_frames x) ats) ≡ drop (files_of_sessions (x ∷ xs)) ats =
    drop-drop (files_of_sessions xs) (file_frames x) ats ∙ ap (λ (k : ℕ). drop k ats) (sym (sum_by-cons file_frames x xs)) in
    let b : drop (lists_of_sessions xs) (drop (lists_of_session x) lists) ≡ drop (lists_of_sessions (x ∷ xs)) lists =
    drop-drop (lists_of_sessions xs) (lists_of_session x) lists ∙ ap (λ (k : ℕ). drop k lists) (sym (sum_by-cons lists_of_session x xs)) in
    ap (λ (l : List SessionRecord). session_record ats lists x ∷ l)
    (sessions_more (drop (file_frames x) ats) (drop (lists_of_session x) lists) xs s
    ∙ (λ j. session_records (drop (file_frames x) ats) (drop (lists_of_session x) lists) xs ++ session_record (a j) (b j) s ∷ []))

pub sessions_long : (ats lists : List ℕ) (xs : List CarriedSession) → length (session_records ats lists xs) ≡ length xs
sessions_long ats lists [] = refl
sessions_long ats lists (x ∷ xs) = ap suc (sessions_long (drop (file_frames x) ats) (drop (lists_of_session x) lists) xs)

pub one_session_more : (sessions : List CarriedSession) (i : ℕ) (x : CarriedSession) → i < length sessions → x ≡ get_or sessions i x → take (i + 1) sessions ≡ take i sessions ++ x ∷ []
one_session_more sessions i x lt e = take_more sessions i x lt ∙ ap (λ (y : CarriedSession). take i sessions ++ y ∷ []) (sym e)

pub files_more : (sessions : List CarriedSession) (i : ℕ) (x : CarriedSession) → i < length sessions → x ≡ get_or sessions i x
    → files_of_sessions (take (i + 1) sessions) ≡ files_of_sessions (take i sessions) + file_frames x
files_more sessions i x lt e =
    let a = ap files_of_sessions (one_session_more sessions i x lt e) in
    let b = sum_by-append file_frames (take i sessions) (x ∷ []) in
    omega (arith, a, b)

-- the files of a session are those of its file frame
pub files_kept : (ats : List ℕ) (rs : List FileRecord) → items_of (file_sheets_in ats rs) ≡ rs
files_kept ats [] = refl
files_kept ats (r ∷ rs) = append-nil (r ∷ rs)

first_kept : (ats lists : List ℕ) (files : List CarriedFile) (name : List ℕ)
    → first_of (file_sheets_in ats (file_records lists files)) ≡ get_or (take (file_frames (record { name = name; files = files })) ats) 0 0
first_kept ats lists [] name = refl
first_kept [] lists (f ∷ fs) name = refl
first_kept (a ∷ ats) lists (f ∷ fs) name = refl

pub session_slot_is : (ats lists : List ℕ) (s : CarriedSession) → session_slot (session_record ats lists s) ≡ session_slot_of s (get_or (take (file_frames s) ats) 0 0)
session_slot_is ats lists s =
    let count : length (items_of (file_sheets_in ats (file_records lists s.files))) ≡ length s.files = ap length (files_kept ats (file_records lists s.files)) ∙ records_long lists s.files in
    let first = first_kept ats lists s.files s.name in
    λ j. record { name = s.name; files = count j; first = first j }

-- the session frame with its first slots
abbrev pub sessions_of : List ℕ → List ℕ → List CarriedSession → List ℕ
sessions_of ats lists sessions = flat_map session_slot_bytes (map session_slot (session_records ats lists sessions))

abbrev pub session_start : ℕ → List ℕ → List ℕ → List CarriedSession → List ℕ
session_start n ats lists sessions = ((number 0 ++ number n) ++ replicate 112 0) ++ sessions_of ats lists sessions

pub session_begins : (f g : FolioValue) (n : ℕ) (ats lists : List ℕ) → g ≡ holding f (number 0 ++ number n) → g ≡ holding f (session_start n ats lists [])
session_begins f g n ats lists e =
    let head : length (number 0 ++ number n) ≡ 16 = refl in
    e ∙ ap (with_bytes f) (sym (framed_zeros (number 0 ++ number n) 112 (omega (arith, head))))

module _ (f g h : FolioValue) (n : ℕ) (ats lists : List ℕ) (sessions : List CarriedSession) (i first at : ℕ) (x : CarriedSession) (lt : i < length sessions) (e : x ≡ get_or sessions i x)
    (at_is : at ≡ files_of_sessions (take i sessions)) (first_is : first ≡ get_or (take (file_frames x) (drop at ats)) 0 0)
    (long : length (session_start n ats lists (take i sessions)) ≡ 128 + 128 * i) (one : length (session_slot_bytes (session_slot_of x first)) ≡ 128) where
  slot : session_slot_of x first ≡ session_slot (session_record (drop (files_of_sessions (take i sessions)) ats) (drop (lists_of_sessions (take i sessions)) lists) x)
  slot =
      ap (session_slot_of x) (first_is ∙ ap (λ (k : ℕ). get_or (take (file_frames x) (drop k ats)) 0 0) at_is)
      ∙ sym (session_slot_is (drop (files_of_sessions (take i sessions)) ats) (drop (lists_of_sessions (take i sessions)) lists) x)

  slots : sessions_of ats lists (take i sessions) ++ session_slot_bytes (session_slot_of x first) ≡ sessions_of ats lists (take (i + 1) sessions)
  slots =
      let r = session_record (drop (files_of_sessions (take i sessions)) ats) (drop (lists_of_sessions (take i sessions)) lists) x in
      ap (λ (s : SessionSlot). sessions_of ats lists (take i sessions) ++ session_slot_bytes s) slot
      ∙ flat_map_more session_slot_bytes [] (map session_slot (session_records ats lists (take i sessions))) (session_slot r)
      ∙ ap (flat_map session_slot_bytes) (sym (map-append session_slot (session_records ats lists (take i sessions)) (r ∷ [])))
      ∙ ap (λ (l : List SessionRecord). flat_map session_slot_bytes (map session_slot l)) (sym (sessions_more ats lists (take i sessions) x))
      ∙ ap (sessions_of ats lists) (sym (one_session_more sessions i x lt e))

  both : session_start n ats lists (take i sessions) ++ session_slot_bytes (session_slot_of x first) ≡ session_start n ats lists (take (i + 1) sessions)
  both =
      append_assoc ((number 0 ++ number n) ++ replicate 112 0) (sessions_of ats lists (take i sessions)) (session_slot_bytes (session_slot_of x first))
      ∙ ap (λ (l : List ℕ). ((number 0 ++ number n) ++ replicate 112 0) ++ l) slots

  pub session_longer : length (session_start n ats lists (take (i + 1) sessions)) ≡ 128 + 128 * (i + 1)
  session_longer =
      ap length (sym both) ∙ length-append (session_start n ats lists (take i sessions)) (session_slot_bytes (session_slot_of x first)) ∙ omega (arith, long, one)

  pub session_more : length sessions ≤ 16 → g ≡ holding f (session_start n ats lists (take i sessions))
      → h ≡ with_bytes g (written g.bytes (128 + 128 * i) (session_slot_bytes (session_slot_of x first))) → h ≡ holding f (session_start n ats lists (take (i + 1) sessions))
  session_more few before put =
      holds_more f g h (session_start n ats lists (take i sessions)) (session_slot_bytes (session_slot_of x first)) (session_start n ats lists (take (i + 1) sessions)) (128 + 128 * i)
      (sym long) (omega (arith, one, lt, few)) before put both

pub session_done : (f g : FolioValue) (n : ℕ) (ats lists : List ℕ) (sessions : List CarriedSession) (i : ℕ) → n ≡ length sessions → length sessions ≤ i
    → g ≡ holding f (session_start n ats lists (take i sessions)) → g ≡ holding f (sheet_bytes 128 session_slot_bytes 0 (map session_slot (session_records ats lists sessions)))
session_done f g n ats lists sessions i len all e =
    let count : n ≡ length (map session_slot (session_records ats lists sessions)) = len ∙ sym (length-map (session_records ats lists sessions) session_slot ∙ sessions_long ats lists sessions) in
    e ∙ (λ j. holding f (((number 0 ++ number (count j)) ++ replicate 112 0) ++ sessions_of ats lists (take_all i sessions all j)))
