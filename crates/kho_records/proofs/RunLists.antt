-- The runs that have to be marked, as they are gathered.
use Rattle.std.proofs.Common.{◌≡◌, ℕ, ◌<◌, ◌≤◌, Bool, true, List, [], ◌∷◌, ◌++◌, length, get_or, map, Option, Some, None, refl, sym, ap, ◌∙◌}
use Rattle.std.specs.Prelude.{◌&&◌, nat_le}
use Rattle.std.specs.List.{All, flat_map, list_all}
use Rattle.std.proofs.lemmas.Bool.{and_parts, and_from, leb-true}
use Rattle.std.proofs.lemmas.List.{append-nil, map-append}
use Rattle.std.proofs.lemmas.List.Concat.{flat_map-append}
use Rattle.std.proofs.lemmas.List.Folds.{list_all-append}
use Rattle.ho_base.specs.declared.limits.TheConstants.{MAX_ORDER, FILE_BYTES}
use Rattle.ho_base.specs.declared.numbers.Pfn.{Pfn}
use Rattle.ho_events.specs.Lists.{firsts}
use Rattle.folio_bitmaps.specs.Runs.{Run}
use Rattle.record_frames.specs.Sheets.{FileRecord, SessionRecord, items_of, record_numbers}
use Rattle.record_frames.specs.Kept.{files_of, bound_frames}
use Rattle.record_frames.specs.Owners.{single, given, file_runs, users}
use Rattle.record_frames.specs.Lists.{sheet_views}
use Rattle.record_frames.specs.Files.{file_record}
use Rattle.record_frames.specs.Sessions.{file_frames, session_record, records_view}
use Rattle.record_frames.specs.Bounds.{bound_view}
use Rattle.record_frames.specs.declared.carried.CarriedBound.{CarriedBound}
use Rattle.record_frames.specs.declared.lists.ListSheet.{ListSheet}
use Rattle.record_frames.specs.declared.files.FileRead.{FileRead}
use Rattle.record_frames.specs.declared.sessions.SessionRead.{SessionRead}
use Rattle.kho_records.specs.Owned.{run_view}
use Rattle.kho_records.specs.declared.owners.owned.UsedRun.{UsedRun}
use Rattle.kho_records.specs.Survey.{kept_of, is_within, all_within}
use Rattle.kho_records.specs.Users.{run_from, frame_of}
use Rattle.kho_records.specs.declared.reading.FramesRead.{FramesRead}
use Rattle.kho_records.proofs.Adding.{holds_at}

-- ---- the frames of bound records

pub bounds_given : (bounds : List (Option CarriedBound)) → flat_map frame_of bounds ≡ given (bound_frames (map bound_view bounds))
bounds_given [] = refl
bounds_given (None ∷ bounds) = bounds_given bounds
bounds_given (Some b ∷ bounds) = ap (λ (l : List ℕ). b.frame.0 ∷ l) (bounds_given bounds)

-- ---- runs

abbrev pub one_run : ℕ → Pfn → List Run
one_run order p = run_from order p.0 ∷ []

pub runs_one : (order : ℕ) (runs : List Pfn) → flat_map (one_run order) runs ≡ map (run_from order) (firsts runs)
runs_one order [] = refl
runs_one order (p ∷ runs) = ap (λ (l : List Run). run_from order p.0 ∷ l) (runs_one order runs)

pub run_pushed : (order : ℕ) (p : Pfn) (us new : List UsedRun) (u : UsedRun) → new ≡ us ++ u ∷ [] → run_view u ≡ run_from order p.0 → map run_view new ≡ map run_view us ++ one_run order p
run_pushed order p us new u push is =
    ap (map run_view) push ∙ map-append run_view us (u ∷ []) ∙ ap (λ (r : Run). map run_view us ++ r ∷ []) is

-- ---- a file

abbrev pub sheet_runs : ℕ → ListSheet → List Run
sheet_runs order s = map (run_from order) (firsts s.runs.items)

pub sheets_runs : (order : ℕ) (lists : List ListSheet) → flat_map (sheet_runs order) lists ≡ map (run_from order) (items_of (sheet_views lists))
sheets_runs order [] = refl
sheets_runs order (s ∷ lists) =
    ap (λ (l : List Run). sheet_runs order s ++ l) (sheets_runs order lists)
    ∙ sym (map-append (run_from order) (firsts s.runs.items) (items_of (sheet_views lists)))

-- ---- files and sessions

abbrev pub read_runs : FileRead → List Run
read_runs f = file_runs (file_record f)

pub files_runs : (files : List FileRead) → flat_map read_runs files ≡ flat_map file_runs (map file_record files)
files_runs [] = refl
files_runs (f ∷ files) = ap (λ (l : List Run). read_runs f ++ l) (files_runs files)

abbrev pub session_runs : SessionRead → List Run
session_runs s = flat_map file_runs (map file_record s.files.items)

pub frames_have : (at : ℕ) (files : List FileRecord) → items_of (file_frames at files) ≡ files
frames_have at [] = refl
frames_have at (f ∷ files) = append-nil (f ∷ files)

pub sessions_runs : (sessions : List SessionRead) → flat_map session_runs sessions ≡ flat_map file_runs (flat_map files_of (map session_record sessions))
sessions_runs [] = refl
sessions_runs (s ∷ sessions) =
    ap (λ (l : List Run). session_runs s ++ l) (sessions_runs sessions)
    ∙ ap (λ (l : List FileRecord). flat_map file_runs l ++ flat_map file_runs (flat_map files_of (map session_record sessions))) (sym (frames_have s.at (map file_record s.files.items)))
    ∙ sym (flat_map-append file_runs (files_of (session_record s)) (flat_map files_of (map session_record sessions)))

-- ---- limits

pub order_within : (f : FileRecord) → is_within f ≡ true → f.order ≤ MAX_ORDER
order_within f h =
    let two = and_parts (nat_le f.order MAX_ORDER && nat_le f.size FILE_BYTES) (nat_le f.position FILE_BYTES) h in
    leb-true f.order MAX_ORDER (and_parts (nat_le f.order MAX_ORDER) (nat_le f.size FILE_BYTES) two.0).0

pub size_within : (f : FileRecord) → is_within f ≡ true → f.size ≤ FILE_BYTES
size_within f h =
    let two = and_parts (nat_le f.order MAX_ORDER && nat_le f.size FILE_BYTES) (nat_le f.position FILE_BYTES) h in
    leb-true f.size FILE_BYTES (and_parts (nat_le f.order MAX_ORDER) (nat_le f.size FILE_BYTES) two.0).1

pub position_within : (f : FileRecord) → is_within f ≡ true → f.position ≤ FILE_BYTES
position_within f h =
    leb-true f.position FILE_BYTES (and_parts (nat_le f.order MAX_ORDER && nat_le f.size FILE_BYTES) (nat_le f.position FILE_BYTES) h).1

-- file i of some files, and the files of session i of some sessions
pub file_at_within : (files : List FileRead) (i : ℕ) (f : FileRead) → list_all is_within (map file_record files) ≡ true → i < length files → f ≡ get_or files i f → is_within (file_record f) ≡ true
file_at_within files i f h lt e = holds_at is_within file_record files i f f h lt e

pub session_at_within : (sessions : List SessionRead) (i : ℕ) (s : SessionRead) → all_within (map session_record sessions) ≡ true → i < length sessions → s ≡ get_or sessions i s
    → list_all is_within (map file_record s.files.items) ≡ true
session_at_within sessions i s h lt e =
    ap (list_all is_within) (sym (frames_have s.at (map file_record s.files.items)))
    ∙ holds_at (λ (r : SessionRecord). list_all is_within (files_of r)) session_record sessions i s s h lt e

abbrev is_small : Run → Bool
is_small r = nat_le r.order MAX_ORDER

singles_small : (frames : List ℕ) → list_all is_small (map single frames) ≡ true
singles_small [] = refl
singles_small (p ∷ frames) = singles_small frames

runs_small : (order : ℕ) (runs : List ℕ) → nat_le order MAX_ORDER ≡ true → list_all is_small (map (run_from order) runs) ≡ true
runs_small order [] h = refl
runs_small order (p ∷ runs) h = and_from (nat_le order MAX_ORDER) (list_all is_small (map (run_from order) runs)) h (runs_small order runs h)

files_small : (files : List FileRecord) → list_all is_within files ≡ true → list_all is_small (flat_map file_runs files) ≡ true
files_small [] h = refl
files_small (f ∷ files) h =
    let hs = and_parts (is_within f) (list_all is_within files) h in
    let two = and_parts (nat_le f.order MAX_ORDER && nat_le f.size FILE_BYTES) (nat_le f.position FILE_BYTES) hs.0 in
    let one = and_parts (nat_le f.order MAX_ORDER) (nat_le f.size FILE_BYTES) two.0 in
    list_all-append is_small (file_runs f) (flat_map file_runs files)
    ∙ and_from (list_all is_small (file_runs f)) (list_all is_small (flat_map file_runs files)) (runs_small f.order (items_of f.lists) one.0) (files_small files hs.1)

sessions_small : (sessions : List SessionRecord) → all_within sessions ≡ true → list_all is_within (flat_map files_of sessions) ≡ true
sessions_small [] h = refl
sessions_small (s ∷ sessions) h =
    let hs = and_parts (list_all is_within (files_of s)) (all_within sessions) h in
    list_all-append is_within (files_of s) (flat_map files_of sessions)
    ∙ and_from (list_all is_within (files_of s)) (list_all is_within (flat_map files_of sessions)) hs.0 (sessions_small sessions hs.1)

pub all_small : (frames : List ℕ) (sessions : List SessionRecord) (us : List UsedRun) → all_within sessions ≡ true
    → map run_view us ≡ map single frames ++ flat_map file_runs (flat_map files_of sessions) → All (λ u. u.order ≤ MAX_ORDER) us
all_small frames sessions us h e =
    let small : list_all is_small (map run_view us) ≡ true =
    ap (list_all is_small) e ∙ list_all-append is_small (map single frames) (flat_map file_runs (flat_map files_of sessions))
    ∙ and_from (list_all is_small (map single frames)) (list_all is_small (flat_map file_runs (flat_map files_of sessions))) (singles_small frames)
    (files_small (flat_map files_of sessions) (sessions_small sessions h)) in
    λ k d lt. leb-true (get_or us k d).order MAX_ORDER (holds_at is_small run_view us k (get_or us k d) d small lt refl)

-- ---- all users

pub users_are : (entry : Pfn) (f : FramesRead) (frames : List Pfn) (us : List UsedRun) → firsts f.records.numbers.items ≡ record_numbers (records_view f.records)
    → firsts frames ≡ entry.0 ∷ (firsts f.records.numbers.items ++ given (bound_frames (map bound_view f.bounds)))
    → map run_view us ≡ map single (firsts frames) ++ flat_map file_runs (flat_map files_of (map session_record f.records.sessions.items))
    → users (kept_of entry.0 f) ≡ map run_view us
users_are entry f frames us numbers singles e =
    let bound = given (bound_frames (map bound_view f.bounds)) in
    let runs : List SessionRecord → List Run = λ l. flat_map file_runs (flat_map files_of l) in
    ap (λ (l : List SessionRecord). map single (entry.0 ∷ (record_numbers (records_view f.records) ++ bound)) ++ runs l) (append-nil (map session_record f.records.sessions.items))
    ∙ ap (λ (l : List ℕ). map single (entry.0 ∷ (l ++ bound)) ++ runs (map session_record f.records.sessions.items)) (sym numbers)
    ∙ ap (λ (l : List ℕ). map single l ++ runs (map session_record f.records.sessions.items)) (sym singles)
    ∙ sym e
