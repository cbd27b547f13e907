-- How the parts of a file show its state.
use Rattle.std.specs.Prelude.{ℕ, ◌*◌, ◌^◌, ◌≤◌, Bool, List}
use Rattle.std.specs.Prelude.{Option}
use Rattle.ho_base.specs.declared.limits.TheConstants.{PAGE_BYTES, FILE_BYTES, MAX_ORDER}
use Rattle.ho_base.specs.declared.numbers.Kind.{Kind}
use Rattle.ho_base.specs.declared.numbers.Order.{Order}
use Rattle.phys_frames.specs.Homes.{HomeId}
use Rattle.phys_frames.specs.Memory.{FolioValue}
use Rattle.ho_events.specs.File.{FileState}
use Rattle.file_folios.specs.Slots.{runs_in}
use Rattle.file_folios.specs.Sized.{bytes_of, HoldsBytes}

-- how many bytes an index covers
abbrev pub piece_bytes : Order → ℕ
piece_bytes order = PAGE_BYTES * 2 ^ order.0

-- the state that the parts show
abbrev pub state_of : Kind → Order → ℕ → ℕ → Bool → Bool → Bool → List (Option FolioValue) → FileState
state_of kind order size position opened pin hold slots = record {
  kind = kind;
  order = order.0;
  bytes = bytes_of (piece_bytes order) size slots;
  position = position;
  runs = runs_in slots;
  opened = opened;
  pin = pin;
  hold = hold;
}

-- the parts belong together
pub record KeepsFile (home : HomeId) (order : Order) (size : ℕ) (slots : List (Option FolioValue)) : Type 0 where
  pub small : order.0 ≤ MAX_ORDER
  pub within : size ≤ FILE_BYTES
  pub holds : HoldsBytes home order (piece_bytes order) size slots
