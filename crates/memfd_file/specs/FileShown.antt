-- How the parts of a file show its state.
use Rattle.std.specs.Prelude.{◌≡◌, ℕ, List}
use Rattle.std.specs.Prelude.{Option, None, Some}
use Rattle.phys_frames.specs.Homes.{HomeId}
use Rattle.ho_events.specs.File.{FileState}
use Rattle.ho_events.specs.History.{file_from}
use Rattle.ho_events.specs.declared.entry.Entry.{Entry}
use Rattle.file_folios.specs.FileFoliosValues.{FileFoliosValue}
use Rattle.memfd_file.specs.Files.{IsMemfdFile}

-- the state of a file that may be there;  for how many more indexes it has memory
abbrev pub shown : Option FileFoliosValue → Option FileState
shown None = None
shown (Some v) = Some v.state

abbrev pub indexes_of : Option FileFoliosValue → ℕ
indexes_of None = 0
indexes_of (Some v) = v.room

-- a file that is there is a memfd whose folios are of this home
abbrev pub IsKept : HomeId → Option FileFoliosValue → Type 0
IsKept home None = Unit {0}
IsKept home (Some v) = (v.home ≡ home) × IsMemfdFile v.state

-- the history is a run from the start to the state that the parts show
pub record KeepsFile (start : Option FileState) (history : List Entry) (home : HomeId) (file : Option FileFoliosValue) : Type 0 where
  pub replayed : file_from start history ≡ Some (shown file)
  pub kept : IsKept home file
