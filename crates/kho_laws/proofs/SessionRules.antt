-- The records of sessions that can be carried keep the rules of records.
use Rattle.std.proofs.Common.{◌≡◌, ℕ, zero, suc, ◌+◌, ◌≤◌, ◌<◌, ◌^◌, Bool, true, cond, eqb, List, [], ◌∷◌, ◌++◌, length, map, take, drop, get_or, refl, sym, ap, ◌∙◌, arith}
use Rattle.std.specs.Prelude.{nat_lt, nat_le, ◌&&◌, ◌||◌}
use Rattle.std.specs.List.{list_all, flat_map}
use Rattle.std.proofs.lemmas.Bool.{lt-ltb, leb-true, le-leb, eq-eqb, and_parts, and_from, or_right}
use Rattle.std.proofs.lemmas.List.{append-nil, length-append, length-map, length-drop, length-take-le, drop-drop, drop_all}
use Rattle.std.proofs.lemmas.List.Sums.{sum_by-cons}
use Rattle.ho_base.specs.NameRule.{is_name}
use Rattle.ho_base.specs.declared.limits.TheConstants.{MAX_FRAMES, OUT_SLOTS, SESSION_FILES, FILES}
use Rattle.ho_events.specs.Lists.{firsts, pieces}
use Rattle.record_frames.specs.Ram.{is_frame}
use Rattle.record_frames.specs.Sheets.{FileSlot, SessionSlot, FileRecord, SessionRecord, items_of, numbers_of, file_slot, session_slot, list_numbers, session_numbers, record_numbers}
use Rattle.record_frames.specs.Rules.{version_1, has_first, fits, file_fits, session_fits, is_file_slot, is_session_slot, is_session_sheet, is_file_sheet, is_filled, keeps, all_rise, all_apart, bytes_before, is_empty}
use Rattle.record_frames.specs.Kept.{is_file, are_sessions, are_records, files_of, file_sheets}
use Rattle.record_frames.specs.State.{list_frames}
use Rattle.record_frames.specs.Writing.{parts_from, parts, sheets_in, file_record, file_records, file_sheets_in, session_record, session_records, file_frames, files_in, files_of_sessions, lists_of_files, lists_of_session, lists_of_sessions}
use Rattle.record_frames.specs.Written.{records_in}
use Rattle.record_frames.specs.declared.carried.CarriedFile.{CarriedFile}
use Rattle.record_frames.specs.declared.carried.CarriedSession.{CarriedSession}
use Rattle.record_frames.proofs.WrittenFiles.{records_long}
use Rattle.record_frames.proofs.WrittenSessions.{files_kept, sessions_long, session_slot_is}
use Rattle.record_frames.proofs.WrittenRecords.{lists_same}
use Rattle.kho_laws.specs.Sessions.{is_carried_file, is_carried_session, are_carried, CanHoldRecords, RecordsKeepRules}
use Rattle.kho_laws.proofs.Occurs.{occurs, occurs_two, occurs_cut, apart_once, once_apart, all_there}
use Rattle.kho_laws.proofs.FileRules.{all_cut, first_is, first_fits, lists_long, FilesHold, files_hold, tokens_kept}

-- ---- file frames

-- the file frame of a session keeps its rules
file_sheet_test : (before : ℕ) (slots : List FileSlot) (files : ℕ) → length slots ≡ files → files ≤ SESSION_FILES → before + files ≤ FILES → list_all is_file_slot slots ≡ true
    → all_rise (λ (a b : FileSlot). nat_lt a.token b.token) slots ≡ true → is_file_sheet version_1 before files [] slots 0 ≡ true
file_sheet_test before slots files len few all are rise =
    let filled = is_filled version_1 (length slots) 0 in
    let slots_ok = list_all is_file_slot slots in
    let in_session = nat_le (0 + length slots) SESSION_FILES in
    let in_all = nat_le (before + (0 + length slots)) FILES in
    let rising = all_rise (λ (a b : FileSlot). nat_lt a.token b.token) slots in
    and_from (filled && slots_ok && in_session && in_all && rising) (nat_lt 0 0 || eqb (0 + length slots) files)
    (and_from (filled && slots_ok && in_session && in_all) rising
    (and_from (filled && slots_ok && in_session) in_all
    (and_from (filled && slots_ok) in_session
    (and_from filled slots_ok (and_from (nat_le (length slots) 31) true (le-leb (length slots) 31 (omega (arith, len, few))) refl) are)
    (le-leb (0 + length slots) SESSION_FILES (omega (arith, len, few))))
    (le-leb (before + (0 + length slots)) FILES (omega (arith, len, all)))) rise)
    (or_right (nat_lt 0 0) (eqb (0 + length slots) files) (eq-eqb (0 + length slots) files (omega (arith, len))))

-- the frames of one session keep their rules
abbrev keeps_session : ℕ → ℕ → SessionRecord → Bool
keeps_session n before s =
    keeps (is_file_sheet version_1 before (length (files_of s))) (file_sheets s) && (list_all file_fits (items_of (file_sheets s)) && list_all (is_file n) (files_of s))

session_keeps : (n before : ℕ) (name ats : List ℕ) (rs : List FileRecord) → length rs ≤ SESSION_FILES → before + length rs ≤ FILES → FilesHold n rs
    → all_rise (λ (a b : FileSlot). nat_lt a.token b.token) (map file_slot rs) ≡ true → keeps_session n before (record { name = name; files = file_sheets_in ats rs }) ≡ true
session_keeps n before name ats [] few all h rise = refl
session_keeps n before name ats (r ∷ rs) few all h rise =
    let same : (r ∷ rs) ++ [] ≡ r ∷ rs = append-nil (r ∷ rs) in
    let slots = map file_slot (r ∷ rs) in
    let len : length slots ≡ length (r ∷ rs) = length-map (r ∷ rs) file_slot in
    and_from (is_file_sheet version_1 before (length ((r ∷ rs) ++ [])) [] slots 0) (list_all file_fits (slots ++ []) && list_all (is_file n) ((r ∷ rs) ++ []))
    (ap (λ (l : List FileRecord). is_file_sheet version_1 before (length l) [] slots 0) same ∙ file_sheet_test before slots (length (r ∷ rs)) len few all h.slots rise)
    (and_from (list_all file_fits (slots ++ [])) (list_all (is_file n) ((r ∷ rs) ++ [])) (ap (list_all file_fits) (append-nil slots) ∙ h.fit) (ap (list_all (is_file n)) same ∙ h.lists))

-- ---- sessions

pub record SessionParts (n : ℕ) (s : CarriedSession) : Type 0 where
  pub name : is_name s.name ≡ true
  pub few : length s.files ≤ SESSION_FILES
  pub rise : all_rise (λ a b. nat_lt a.token.0 b.token.0) s.files ≡ true
  pub files : list_all (is_carried_file n) s.files ≡ true

pub session_parts : (n : ℕ) (s : CarriedSession) → is_carried_session n s ≡ true → SessionParts n s
session_parts n s h =
    let a = and_parts _ (list_all (is_carried_file n) s.files) h in
    let b = and_parts (is_name s.name && nat_le (length s.files) SESSION_FILES) (all_rise (λ a b. nat_lt a.token.0 b.token.0) s.files) a.0 in
    let c = and_parts (is_name s.name) (nat_le (length s.files) SESSION_FILES) b.0 in
    record { name = c.0; few = leb-true (length s.files) SESSION_FILES c.1; rise = b.1; files = a.1 }

-- how many frames sessions have
pub files_one_more : (s : CarriedSession) (ss : List CarriedSession) → files_of_sessions (s ∷ ss) ≡ file_frames s + files_of_sessions ss
files_one_more s ss = sum_by-cons file_frames s ss

pub lists_one_more : (s : CarriedSession) (ss : List CarriedSession) → lists_of_sessions (s ∷ ss) ≡ lists_of_files s.files + lists_of_sessions ss
lists_one_more s ss = sum_by-cons lists_of_session s ss

sessions_keep : (n before : ℕ) (ats lists : List ℕ) (ss : List CarriedSession) → n ≤ MAX_FRAMES → list_all (is_carried_session n) ss ≡ true → before + length (files_in ss) ≤ FILES
    → lists_of_sessions ss ≤ length lists → list_all (is_frame n) lists ≡ true → are_sessions version_1 n before (session_records ats lists ss) ≡ true
sessions_keep n before ats lists [] small can all enough frames = refl
sessions_keep n before ats lists (s ∷ ss) small can all enough frames =
    let cs = and_parts (is_carried_session n s) (list_all (is_carried_session n) ss) can in
    let p = session_parts n s cs.0 in
    let rs = file_records lists s.files in
    let many : length rs ≡ length s.files = records_long lists s.files in
    let kept : length (files_of (session_record ats lists s)) ≡ length s.files = ap length (files_kept ats rs) ∙ many in
    let sum = lists_one_more s ss in
    let two = length-append s.files (files_in ss) in
    let hold = files_hold n lists s.files small p.files (omega (arith, sum, enough)) frames in
    let few = p.few in
    let now = session_keeps n before s.name ats rs (omega (arith, many, few)) (omega (arith, many, two, all)) hold (tokens_kept lists s.files p.rise) in
    let rest = sessions_keep n (before + length (files_of (session_record ats lists s))) (drop (file_frames s) ats) (drop (lists_of_session s) lists) ss small cs.1
    (omega (arith, kept, two, all)) (omega (arith, sum, enough, length-drop (lists_of_session s) lists)) (all_cut (is_frame n) (lists_of_session s) lists frames).1 in
    and_from (keeps_session n before (session_record ats lists s))
    (are_sessions version_1 n (before + length (files_of (session_record ats lists s))) (session_records (drop (file_frames s) ats) (drop (lists_of_session s) lists) ss)) now rest

-- ---- the session frame

-- how many file frames these files take
abbrev frames_for : List CarriedFile → ℕ
frames_for fs = cond (is_empty fs) 0 1

none_framed : (s : CarriedSession) → length s.files ≡ 0 → file_frames s ≡ 0
none_framed s e = no_frames s.files e
  where
    no_frames : (fs : List CarriedFile) → length fs ≡ 0 → frames_for fs ≡ 0
    no_frames [] e = refl
    no_frames (f ∷ fs) e = absurd (omega (arith, e))

some_framed : (s : CarriedSession) → 0 < length s.files → 0 < file_frames s
some_framed s lt = one_frame s.files lt
  where
    one_frame : (fs : List CarriedFile) → 0 < length fs → 0 < frames_for fs
    one_frame [] lt = absurd (omega (arith, lt))
    one_frame (f ∷ fs) lt = omega arith

pub record SlotsHold (slots : List SessionSlot) : Type 0 where
  pub each : list_all (is_session_slot version_1) slots ≡ true
  pub fit : list_all session_fits slots ≡ true

slots_hold : (n : ℕ) (ats lists : List ℕ) (ss : List CarriedSession) → n ≤ MAX_FRAMES → list_all (is_carried_session n) ss ≡ true → files_of_sessions ss ≤ length ats
    → list_all (is_frame n) ats ≡ true → SlotsHold (map session_slot (session_records ats lists ss))
slots_hold n ats lists [] small can enough frames = record { each = refl; fit = refl }
slots_hold n ats lists (s ∷ ss) small can enough frames =
    let cs = and_parts (is_carried_session n s) (list_all (is_carried_session n) ss) can in
    let p = session_parts n s cs.0 in
    let few = p.few in
    let sum = files_one_more s ss in
    let first = get_or (take (file_frames s) ats) 0 0 in
    let slot = session_slot_is ats lists s in
    let room : file_frames s ≤ length ats = omega (arith, sum, enough) in
    let has = first_is n (file_frames s) (length s.files) ats (none_framed s) (some_framed s) room frames in
    let rest = slots_hold n (drop (file_frames s) ats) (drop (lists_of_session s) lists) ss small cs.1 (omega (arith, sum, enough, length-drop (file_frames s) ats))
    (all_cut (is_frame n) (file_frames s) ats frames).1 in
    let rs = map session_slot (session_records (drop (file_frames s) ats) (drop (lists_of_session s) lists) ss) in
    record {
      each = and_from (is_session_slot version_1 (session_slot (session_record ats lists s))) (list_all (is_session_slot version_1) rs)
          (ap (is_session_slot version_1) slot
          ∙ and_from (is_name s.name && nat_le (length s.files) SESSION_FILES) (has_first (length s.files) first)
          (and_from (is_name s.name) (nat_le (length s.files) SESSION_FILES) p.name (le-leb (length s.files) SESSION_FILES few)) has)
          rest.each;
      fit = and_from (session_fits (session_slot (session_record ats lists s))) (list_all session_fits rs)
          (ap session_fits slot
          ∙ and_from (is_name s.name && fits (length s.files)) (fits first)
          (and_from (is_name s.name) (fits (length s.files)) p.name (lt-ltb (length s.files) (2 ^ 64) (omega (arith, few))))
          (first_fits n (file_frames s) ats small room frames))
          rest.fit;
    }

names_kept : (ats lists : List ℕ) (ss : List CarriedSession) → all_rise (λ a b. bytes_before a.name b.name) ss ≡ true
    → all_rise (λ (a b : SessionSlot). bytes_before a.name b.name) (map session_slot (session_records ats lists ss)) ≡ true
names_kept ats lists [] h = refl
names_kept ats lists (s ∷ []) h = refl
names_kept ats lists (s ∷ t ∷ ss) h =
    let hs = and_parts (bytes_before s.name t.name) (all_rise (λ a b. bytes_before a.name b.name) (t ∷ ss)) h in
    let ats' = drop (file_frames s) ats in
    let lists' = drop (lists_of_session s) lists in
    and_from (bytes_before s.name t.name) (all_rise (λ (a b : SessionSlot). bytes_before a.name b.name) (map session_slot (session_records ats' lists' (t ∷ ss)))) hs.0
    (names_kept ats' lists' (t ∷ ss) hs.1)

session_sheet_test : (slots : List SessionSlot) → length slots ≤ OUT_SLOTS → list_all (is_session_slot version_1) slots ≡ true
    → all_rise (λ (a b : SessionSlot). bytes_before a.name b.name) slots ≡ true → is_session_sheet version_1 [] slots 0 ≡ true
session_sheet_test slots few are rise =
    let filled = is_filled version_1 (length slots) 0 in
    let slots_ok = list_all (is_session_slot version_1) slots in
    let in_all = nat_le (0 + length slots) OUT_SLOTS in
    and_from (filled && slots_ok && in_all) (all_rise (λ (a b : SessionSlot). bytes_before a.name b.name) slots)
    (and_from (filled && slots_ok) in_all
    (and_from filled slots_ok (and_from (nat_le (length slots) 31) true (le-leb (length slots) 31 (omega (arith, few))) refl) are)
    (le-leb (0 + length slots) OUT_SLOTS (omega (arith, few)))) rise

-- ---- the frames' numbers

parts_long : {A : Type 0} (size k : ℕ) (xs : List A) → length (parts_from size k xs) ≡ k
parts_long size zero xs = refl
parts_long size (suc k) xs = ap suc (parts_long size k (drop size xs))

sheets_occur : {A : Type 0} (p : ℕ) (ats : List ℕ) (ps : List (List A)) → length ats ≡ length ps → occurs p (numbers_of (sheets_in ats ps)) ≡ occurs p ats
sheets_occur p [] ps e = refl
sheets_occur p (a ∷ ats) [] e = absurd (omega (arith, e))
sheets_occur p (a ∷ ats) (x ∷ ps) e = omega (arith, sheets_occur p ats ps (omega (arith, e)))

-- the list frames of files are the first of their frames
lists_occur : (p : ℕ) (ats : List ℕ) (fs : List CarriedFile) → lists_of_files fs ≤ length ats
    → occurs p (flat_map list_numbers (file_records ats fs)) + occurs p (drop (lists_of_files fs) ats) ≡ occurs p ats
lists_occur p ats [] enough = omega arith
lists_occur p ats (f ∷ fs) enough =
    let k = list_frames f in
    let sum : lists_of_files (f ∷ fs) ≡ list_frames f + lists_of_files fs = sum_by-cons list_frames f fs in
    let xs = firsts f.runs in
    let one = sheets_occur p (take k ats) (parts 510 xs) (lists_long ats f (omega (arith, sum, enough)) ∙ sym (parts_long 510 (pieces (length xs) 510) xs)) in
    let two = occurs_two p (list_numbers (file_record ats f)) (flat_map list_numbers (file_records (drop k ats) fs)) in
    let rest : drop (lists_of_files fs) (drop k ats) ≡ drop (lists_of_files (f ∷ fs)) ats =
    drop-drop (lists_of_files fs) k ats ∙ ap (λ (i : ℕ). drop i ats) (sym (sum_by-cons list_frames f fs)) in
    let later = lists_occur p (drop k ats) fs (omega (arith, sum, enough, length-drop k ats)) in
    omega (arith, one, two, later, occurs_cut p k ats, ap (occurs p) rest)

-- the file frame of a session is the first of its frames
frame_occurs : (p : ℕ) (ats lists : List ℕ) (fs : List CarriedFile) → frames_for fs ≤ length ats
    → occurs p (numbers_of (file_sheets_in ats (file_records lists fs))) ≡ occurs p (take (frames_for fs) ats)
frame_occurs p ats lists [] enough = refl
frame_occurs p [] lists (f ∷ fs) enough = absurd (omega (arith, enough))
frame_occurs p (a ∷ ats) lists (f ∷ fs) enough = refl

sessions_occur : (p : ℕ) (ats lists : List ℕ) (ss : List CarriedSession) → files_of_sessions ss ≤ length ats → lists_of_sessions ss ≤ length lists
    → occurs p (flat_map session_numbers (session_records ats lists ss)) + (occurs p (drop (files_of_sessions ss) ats) + occurs p (drop (lists_of_sessions ss) lists))
    ≡ occurs p ats + occurs p lists
sessions_occur p ats lists [] enough more = omega arith
sessions_occur p ats lists (s ∷ ss) enough more =
    let rs = file_records lists s.files in
    let k = file_frames s in
    let m = lists_of_session s in
    let sum = files_one_more s ss in
    let lists_sum = lists_one_more s ss in
    let mine = session_record ats lists s in
    let rest = session_records (drop k ats) (drop m lists) ss in
    let one = frame_occurs p ats lists s.files (omega (arith, sum, enough)) in
    let kept : occurs p (flat_map list_numbers (items_of (file_sheets_in ats rs))) ≡ occurs p (flat_map list_numbers rs) =
    ap (λ (l : List FileRecord). occurs p (flat_map list_numbers l)) (files_kept ats rs) in
    let lists_mine = lists_occur p lists s.files (omega (arith, lists_sum, more)) in
    let a = occurs_two p (session_numbers mine) (flat_map session_numbers rest) in
    let b = occurs_two p (numbers_of (file_sheets_in ats rs)) (flat_map list_numbers (items_of (file_sheets_in ats rs))) in
    let c = sessions_occur p (drop k ats) (drop m lists) ss (omega (arith, sum, enough, length-drop k ats)) (omega (arith, lists_sum, more, length-drop m lists)) in
    let d : drop (files_of_sessions ss) (drop k ats) ≡ drop (files_of_sessions (s ∷ ss)) ats = drop-drop (files_of_sessions ss) k ats ∙ ap (λ (i : ℕ). drop i ats) (sym sum) in
    let e : drop (lists_of_sessions ss) (drop m lists) ≡ drop (lists_of_sessions (s ∷ ss)) lists = drop-drop (lists_of_sessions ss) m lists ∙ ap (λ (i : ℕ). drop i lists) (sym lists_sum) in
    omega (arith, one, kept, lists_mine, a, b, c, ap (occurs p) d, ap (occurs p) e, occurs_cut p k ats)

-- Each frame's number stands among those that were given as often as there, but for those that are left.
pub records_occur : (p a : ℕ) (ats : List ℕ) (ss : List CarriedSession) → files_of_sessions ss + lists_of_files (files_in ss) ≤ length ats
    → occurs p (record_numbers (records_in (a ∷ ats) ss)) + occurs p (drop (lists_of_files (files_in ss)) (drop (files_of_sessions ss) ats)) ≡ occurs p (a ∷ ats)
records_occur p a ats ss enough =
    let k = files_of_sessions ss in
    let rs = session_records (take k ats) (drop k ats) ss in
    let whole : occurs p (flat_map session_numbers (rs ++ [])) ≡ occurs p (flat_map session_numbers rs) = ap (λ (l : List SessionRecord). occurs p (flat_map session_numbers l)) (append-nil rs) in
    let same = lists_same ss in
    let within = sessions_occur p (take k ats) (drop k ats) ss (omega (arith, length-take-le k ats (omega (arith, enough)))) (omega (arith, same, enough, length-drop k ats)) in
    let none : drop k (take k ats) ≡ [] = drop_all k (take k ats) (omega (arith, length-take-le k ats (omega (arith, enough)))) in
    let left = ap (λ (i : ℕ). occurs p (drop i (drop k ats))) same in
    omega (arith, whole, within, ap (occurs p) none, left, occurs_cut p k ats)

-- ---- all rules

rules_at : (n a : ℕ) (ats : List ℕ) (ss : List CarriedSession) → n ≤ MAX_FRAMES → are_carried n ss ≡ true → CanHoldRecords n (a ∷ ats) ss → are_records version_1 n (records_in (a ∷ ats) ss) ≡ true
rules_at n a ats ss small can h =
    let c = and_parts _ (list_all (is_carried_session n) ss) can in
    let d = and_parts (nat_le (length ss) OUT_SLOTS && nat_le (length (files_in ss)) FILES) (all_rise (λ a b. bytes_before a.name b.name) ss) c.0 in
    let e = and_parts (nat_le (length ss) OUT_SLOTS) (nat_le (length (files_in ss)) FILES) d.0 in
    let few : length ss ≤ OUT_SLOTS = leb-true (length ss) OUT_SLOTS e.0 in
    let all : length (files_in ss) ≤ FILES = leb-true (length (files_in ss)) FILES e.1 in
    let k = files_of_sessions ss in
    let fs = take k ats in
    let ls = drop k ats in
    let rs = session_records fs ls ss in
    let records = records_in (a ∷ ats) ss in
    let enough = h.enough in
    let room : k + lists_of_files (files_in ss) ≤ length ats = omega (arith, enough) in
    let frames = (and_parts (is_frame n a) (list_all (is_frame n) ats) h.within).1 in
    let cut = all_cut (is_frame n) k ats frames in
    let slots = slots_hold n fs ls ss small c.1 (omega (arith, length-take-le k ats (omega (arith, room)))) cut.0 in
    let many : length (map session_slot rs) ≡ length ss = length-map rs session_slot ∙ sessions_long fs ls ss in
    let sheet = session_sheet_test (map session_slot rs) (omega (arith, many, few)) slots.each (names_kept fs ls ss d.1) in
    let fit : list_all session_fits (map session_slot rs ++ []) ≡ true = ap (list_all session_fits) (append-nil (map session_slot rs)) ∙ slots.fit in
    let sessions : are_sessions version_1 n 0 (rs ++ []) ≡ true =
    ap (are_sessions version_1 n 0) (append-nil rs)
    ∙ sessions_keep n 0 fs ls ss small c.1 (omega (arith, all)) (omega (arith, room, length-drop k ats, lists_same ss)) cut.1 in
    let occur : (p : ℕ) → occurs p (record_numbers records) ≤ occurs p (a ∷ ats) = λ p. omega (arith, records_occur p a ats ss (omega (arith, room))) in
    let within : list_all (is_frame n) (record_numbers records) ≡ true = all_there (is_frame n) (record_numbers records) (a ∷ ats) occur h.within in
    let once : all_apart (record_numbers records) ≡ true = once_apart (record_numbers records) (λ p. omega (arith, occur p, apart_once p (a ∷ ats) h.once)) in
    and_from _ (all_apart (record_numbers records))
    (and_from _ (list_all (is_frame n) (record_numbers records))
    (and_from _ (are_sessions version_1 n 0 (rs ++ []))
    (and_from _ (list_all session_fits (map session_slot rs ++ []))
    (and_from true (is_session_sheet version_1 [] (map session_slot rs) 0) refl sheet) fit) sessions) within) once

pub rules_kept : RecordsKeepRules
rules_kept n [] ss small can h = let enough = h.enough in absurd (omega (arith, enough))
rules_kept n (a ∷ ats) ss small can h = rules_at n a ats ss small can h
