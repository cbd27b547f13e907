-- Records in the frames that were written for them.
use Rattle.std.specs.Prelude.{◌≡◌, ℕ, List, [], ◌∷◌, take, drop, slice_index}
use Rattle.std.specs.List.{AllByRecursion}
use Rattle.record_frames.specs.Ram.{Ram, Page}
use Rattle.record_frames.specs.Sheets.{Sheet, SessionRecord, record_pages}
use Rattle.record_frames.specs.Carries.{HavePages}
use Rattle.record_frames.specs.Writing.{framed, session_records, files_of_sessions, pages_in_use}
use Rattle.record_frames.specs.declared.carried.CarriedSession.{CarriedSession}

-- each of these frames holds its bytes, and zeros behind them
abbrev pub HoldPages : Ram → List Page → Type 0
HoldPages ram pages = AllByRecursion (λ p. ram.page p.at ≡ framed p.bytes) pages

-- the records of sessions in frames with these numbers: session frame, file frames, list frames
abbrev pub records_in : List ℕ → List CarriedSession → List (Sheet SessionRecord)
records_in ats sessions =
    record { at = slice_index ats 0; items = session_records (take (files_of_sessions sessions) (drop 1 ats)) (drop (files_of_sessions sessions) (drop 1 ats)) sessions } ∷ []

-- Frames that hold what is written for sessions have the pages of their records, in the order in which they are read.
abbrev pub WrittenAreRead : Type 0
WrittenAreRead =
    (ram : Ram) (ats : List ℕ) (sessions : List CarriedSession) → HoldPages ram (pages_in_use ats sessions) → HavePages ram (record_pages (records_in ats sessions))
