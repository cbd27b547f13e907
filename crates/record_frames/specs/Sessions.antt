-- Sessions and all records as the program reads them.
use Rattle.std.specs.Prelude.{◌≡◌, ℕ, ◌+◌, List, [], ◌∷◌, map, Result, Ok, Err}
use Rattle.record_frames.specs.Ram.{Ram}
use Rattle.record_frames.specs.Sheets.{Sheet, FileRecord, SessionRecord}
use Rattle.record_frames.specs.Rules.{version_1}
use Rattle.record_frames.specs.Reading.{Seen, session_at, each_item}
use Rattle.record_frames.specs.Slots.{session_view}
use Rattle.record_frames.specs.Files.{file_record}
use Rattle.record_frames.specs.declared.slot_reading.ReadSession.{ReadSession}
use Rattle.record_frames.specs.declared.sessions.SessionRead.{SessionRead}
use Rattle.record_frames.specs.declared.sessions.RecordsRead.{RecordsRead}

-- the file frame of a session: none where it has no files
abbrev pub file_frames : ℕ → List FileRecord → List (Sheet FileRecord)
file_frames at [] = []
file_frames at (f ∷ files) = (record { at = at; items = f ∷ files }) ∷ []

abbrev pub session_record : SessionRead → SessionRecord
session_record s = record { name = s.name; files = file_frames s.at (map file_record s.files.items) }

-- record frames that were read, and so many files
abbrev pub seen_of : List ℕ → ℕ → Seen
seen_of numbers files = record { numbers = numbers; files = files }

-- a session was read after some record frames and so many files, or the first number that breaks a rule
abbrev pub TellsSession : Ram → List ℕ → List ℕ → ℕ → ReadSession → Result SessionRead ℕ → Type 0
TellsSession ram old new before slot (Ok s) =
    session_at version_1 ram (seen_of old before) (session_view slot) ≡ Ok (session_record s, seen_of new (before + slot.files))
TellsSession ram old new before slot (Err p) = session_at version_1 ram (seen_of old before) (session_view slot) ≡ Err p

-- several sessions were read in turn, or the first number that breaks a rule
abbrev pub ToldSessions : {X : Type 0} → (X → List SessionRead) → Ram → List ℕ → List ℕ → List ReadSession → Result X ℕ → Type 0
ToldSessions sessions ram old new slots (Ok x) =
    (files : ℕ) × (each_item (session_at version_1 ram) (seen_of old 0) (map session_view slots) ≡ Ok (map session_record (sessions x), seen_of new files))
ToldSessions sessions ram old new slots (Err p) = each_item (session_at version_1 ram) (seen_of old 0) (map session_view slots) ≡ Err p

-- the session frame with its sessions
abbrev pub records_view : RecordsRead → List (Sheet SessionRecord)
records_view r = (record { at = r.at; items = map session_record r.sessions.items }) ∷ []
