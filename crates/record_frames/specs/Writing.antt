-- What is written: the record frames that a state takes, and their bytes.
use Rattle.std.specs.Prelude.{ℕ, zero, suc, ◌-◌, if◌then◌else◌, List, [], ◌∷◌, ◌++◌, length, map, take, drop, replicate, slice_index}
use Rattle.std.specs.List.{flat_map, sum_by}
use Rattle.ho_base.specs.declared.limits.TheConstants.{PAGE_BYTES}
use Rattle.ho_events.specs.Lists.{firsts, pieces}
use Rattle.phys_frames.specs.Memory.{FolioValue, with_bytes}
use Rattle.record_frames.specs.Ram.{Page}
use Rattle.record_frames.specs.Sheets.{Sheet, FileSlot, SessionSlot, FileRecord, SessionRecord, items_of, map_items, file_slot, file_slot_bytes, session_slot, session_slot_bytes, sheet_bytes, chain_pages, list_pages}
use Rattle.record_frames.specs.Rules.{LISTED, is_empty}
use Rattle.record_frames.specs.State.{list_frames}
use Rattle.record_frames.specs.declared.carried.CarriedFile.{CarriedFile}
use Rattle.record_frames.specs.declared.carried.CarriedSession.{CarriedSession}

-- the numbers of folios of one frame
abbrev pub frames_of : List FolioValue → List ℕ
frames_of folios = map (λ f. f.first.0) folios

-- bytes with zeros behind them, a frame long
unfoldable pub framed : List ℕ → List ℕ
framed front = front ++ replicate (PAGE_BYTES - length front) 0

-- a folio of one frame that holds these bytes, and zeros behind them
abbrev pub holding : FolioValue → List ℕ → FolioValue
holding folio front = with_bytes folio (framed front)

-- folios that hold these pages, in order
abbrev pub with_pages : List FolioValue → List Page → List FolioValue
with_pages [] pages = []
with_pages (f ∷ folios) [] = f ∷ folios
with_pages (f ∷ folios) (p ∷ pages) = holding f p.bytes ∷ with_pages folios pages

-- items in parts of a size: the last may be smaller
abbrev pub parts_from : {A : Type 0} → ℕ → ℕ → List A → List (List A)
parts_from size zero xs = []
parts_from size (suc n) xs = take size xs ∷ parts_from size n (drop size xs)

abbrev pub parts : {A : Type 0} → ℕ → List A → List (List A)
parts size xs = parts_from size (pieces (length xs) size) xs

-- the parts in these frames
abbrev pub sheets_in : {A : Type 0} → List ℕ → List (List A) → List (Sheet A)
sheets_in [] ps = []
sheets_in (at ∷ ats) [] = []
sheets_in (at ∷ ats) (p ∷ ps) = record { at = at; items = p } ∷ sheets_in ats ps

-- the slot of a file, and of a session, with the number of the first frame that follows
abbrev pub file_slot_of : CarriedFile → ℕ → FileSlot
file_slot_of f first = record {
  token = f.token.0;
  kind = f.kind;
  order = f.order.0;
  size = f.size;
  position = f.position;
  handle = f.handle;
  first = first;
  folios = length f.runs;
}

abbrev pub session_slot_of : CarriedSession → ℕ → SessionSlot
session_slot_of s first = record { name = s.name; files = length s.files; first = first }

-- a file whose list frames are the first of these
abbrev pub file_record : List ℕ → CarriedFile → FileRecord
file_record ats f = record {
  token = f.token.0;
  kind = f.kind;
  order = f.order.0;
  size = f.size;
  position = f.position;
  handle = f.handle;
  lists = sheets_in (take (list_frames f) ats) (parts LISTED (firsts f.runs));
}

-- files whose list frames are these, in order
abbrev pub file_records : List ℕ → List CarriedFile → List FileRecord
file_records ats [] = []
file_records ats (f ∷ fs) = file_record ats f ∷ file_records (drop (list_frames f) ats) fs

-- a session whose file frame is the first of these, and whose files' list frames are the first of those
abbrev pub file_sheets_in : List ℕ → List FileRecord → List (Sheet FileRecord)
file_sheets_in ats [] = []
file_sheets_in ats (f ∷ fs) = record { at = slice_index ats 0; items = f ∷ fs } ∷ []

abbrev pub session_record : List ℕ → List ℕ → CarriedSession → SessionRecord
session_record ats lists s = record { name = s.name; files = file_sheets_in ats (file_records lists s.files) }

-- how many file frames and list frames a session has
abbrev pub file_frames : CarriedSession → ℕ
file_frames s = if is_empty s.files then 0 else 1

abbrev pub lists_of_files : List CarriedFile → ℕ
lists_of_files files = sum_by list_frames files

abbrev pub lists_of_session : CarriedSession → ℕ
lists_of_session s = lists_of_files s.files

-- sessions whose file frames are these, and whose files' list frames are those, in order
abbrev pub session_records : List ℕ → List ℕ → List CarriedSession → List SessionRecord
session_records ats lists [] = []
session_records ats lists (s ∷ ss) =
    session_record ats lists s ∷ session_records (drop (file_frames s) ats) (drop (lists_of_session s) lists) ss

-- the pages of the file frames, and of the list frames, in order of sessions
abbrev pub file_pages : List SessionRecord → List Page
file_pages sessions = flat_map (λ s. chain_pages 128 file_slot_bytes (map_items file_slot s.files)) sessions

abbrev pub lists_pages : List SessionRecord → List Page
lists_pages sessions = flat_map (λ s. flat_map list_pages (items_of s.files)) sessions

-- how many file frames and list frames sessions have
abbrev pub files_of_sessions : List CarriedSession → ℕ
files_of_sessions sessions = sum_by file_frames sessions

abbrev pub lists_of_sessions : List CarriedSession → ℕ
lists_of_sessions sessions = sum_by lists_of_session sessions

-- the files of sessions, in order
abbrev pub files_in : List CarriedSession → List CarriedFile
files_in sessions = flat_map (λ s. s.files) sessions

-- The frames of records in their order of use, with their bytes, where frames with these numbers are used: the session frame,
-- the file frames, the list frames.
abbrev pub pages_for : List ℕ → List ℕ → ℕ → List CarriedSession → List Page
pages_for files lists at sessions =
    record { at = at; bytes = sheet_bytes 128 session_slot_bytes 0 (map session_slot (session_records files lists sessions)) }
    ∷ (file_pages (session_records files lists sessions) ++ flat_map list_pages (file_records lists (files_in sessions)))

unfoldable pub pages_in_use : List ℕ → List CarriedSession → List Page
pages_in_use ats sessions =
    pages_for (take (files_of_sessions sessions) (drop 1 ats)) (drop (files_of_sessions sessions) (drop 1 ats)) (slice_index ats 0) sessions
