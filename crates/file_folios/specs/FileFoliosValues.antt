-- What contracts see of a file over folios.
use Rattle.std.specs.Prelude.{ℕ}
use Rattle.phys_frames.specs.Homes.{HomeId}
use Rattle.ho_events.specs.File.{FileState}

-- a file: its state, the home of every folio that it is given, and how many more indexes there is memory for
pub record FileFoliosValue : Type 0 where
  pub state : FileState
  pub home : HomeId
  pub room : ℕ
