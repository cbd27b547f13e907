-- What contracts see of a file.
use Rattle.std.specs.Prelude.{ℕ, List, Option, MatchOption}
use Rattle.phys_frames.specs.Homes.{HomeId}
use Rattle.ho_events.specs.declared.entry.Entry.{Entry}
use Rattle.ho_events.specs.File.{FileState}
use Rattle.ho_events.specs.History.{file_from}

-- a file: its object's number, the home of every folio that it is given, its state before the first entry of its
-- history, that history, how many more entries there is room for, and for how many more indexes there is memory
pub record FileValue : Type 0 where
  pub number : ℕ
  pub home : HomeId
  pub start : Option FileState
  pub history : List Entry
  pub room : ℕ
  pub indexes : ℕ

-- the file is in a state of which a fact holds: its history is a run of its steps from its start to that state
abbrev pub FileIs : FileValue → (Option FileState → Type 0) → Type 0
FileIs f P = MatchOption (file_from f.start f.history) ⊥ P
