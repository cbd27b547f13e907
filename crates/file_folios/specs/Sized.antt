-- Slots that hold so many bytes.
use Rattle.std.specs.Prelude.{◌≡◌, ℕ, ◌*◌, ◌-◌, ◌/◌, ◌+◌, List, length, take}
use Rattle.std.specs.Prelude.{Option}
use Rattle.ho_base.specs.declared.numbers.Order.{Order}
use Rattle.phys_frames.specs.Homes.{HomeId}
use Rattle.phys_frames.specs.Memory.{FolioValue}
use Rattle.ho_events.specs.Lists.{pieces}
use Rattle.ho_events.specs.File.{extended}
use Rattle.file_folios.specs.Slots.{places, all_bytes, AreSlots}

-- the first bytes of slots
abbrev pub bytes_of : ℕ → ℕ → List (Option FolioValue) → List ℕ
bytes_of piece size slots = take size (all_bytes piece slots)

-- the indexes that a range of bytes touches
abbrev pub places_of : ℕ → ℕ → ℕ → List ℕ
places_of piece off len = places (off / piece) (pieces (off + len) piece - off / piece)

-- the slots of a file with so many bytes: one for each piece of them, and zeros past them
pub record HoldsBytes (home : HomeId) (order : Order) (piece size : ℕ) (slots : List (Option FolioValue)) : Type 0 where
  pub are : AreSlots home order piece slots
  pub count : length slots ≡ pieces size piece
  pub zeros : all_bytes piece slots ≡ extended (length slots * piece) (bytes_of piece size slots)
