-- The frames of a kernel's machine, brought home with what they hold.
use Rattle.std.specs.Prelude.{◌≡◌, ℕ, ◌+◌, ◌*◌, ◌^◌, ◌<◌, ◌≤◌, ◌⊎◌, true, List, length, take, drop, Option, Some}
use Rattle.std.specs.List.{Contains}
use Rattle.std.specs.FinMap as finmap
use Rattle.ho_base.specs.Objects.{pool_no}
use Rattle.ho_base.specs.declared.limits.TheConstants.{PAGE_BYTES}
use Rattle.ho_base.specs.declared.numbers.Pfn.{Pfn}
use Rattle.ho_events.specs.File.{FileState, index_bytes, extended}
use Rattle.ho_events.specs.Lists.{pieces}
use Rattle.ho_events.specs.Pool.{PoolState, is_owned}
use Rattle.ho_world.specs.World.{State, PoolIn, FileIn}
use Rattle.phys_frames.specs.Memory.{Memory, FolioValue, page_at}
use Rattle.machine_core.specs.declared.object.Object as object
use Rattle.machine_core.specs.Worlds.{states_in}

-- frames of which more are home: each that was home is so with the same bytes
pub record HasMore (old new : Memory) : Type 0 where
  pub home : new.home ≡ old.home
  pub count : length new.pages ≡ length old.pages
  pub kept : (p : Pfn) (bytes : List ℕ) → page_at old p ≡ Some bytes → page_at new p ≡ Some bytes

-- what a file has at an index: its bytes from there on, with zeros past them
abbrev pub piece_of : FileState → ℕ → List ℕ
piece_of f i = take (index_bytes f) (drop (i * index_bytes f) (extended (pieces (length f.bytes) (index_bytes f) * index_bytes f) f.bytes))

-- each frame of the run of an order that begins at a frame is home with its part of these bytes
abbrev pub HoldsRun : Memory → ℕ → ℕ → List ℕ → Type 0
HoldsRun m order first bytes = (j : ℕ) → j < 2 ^ order → page_at m (record { 0 = first + j }) ≡ Some (take PAGE_BYTES (drop (j * PAGE_BYTES) bytes))

-- where the state is that of a file, each of its runs is home with what the file has at the run's index
abbrev pub HoldsFile : Memory → Option State → Type 0
HoldsFile m state = (f : FileState) (i first : ℕ) → state ≡ Some (FileIn (Some f)) → finmap.get f.runs i ≡ Some first → HoldsRun m f.order first (piece_of f i)

-- the runs of each file of the objects are home with what the file has at their indexes
abbrev pub HoldsFiles : Memory → List (Option object.Object) → Type 0
HoldsFiles m objects = (n : ℕ) → HoldsFile m (states_in objects n)

-- a folio begins at the frame
pub record BeginsAt (folios : List FolioValue) (p : ℕ) : Type 0 where
  pub folio : FolioValue
  pub there : Contains folios folio
  pub first : folio.first.0 ≡ p

-- the frame stands in a run of a file of the objects
pub record IsFrameOfFile (objects : List (Option object.Object)) (p : ℕ) : Type 0 where
  pub number : ℕ
  pub file : FileState
  pub there : states_in objects number ≡ Some (FileIn (Some file))
  pub index : ℕ
  pub first : ℕ
  pub run : finmap.get file.runs index ≡ Some first
  pub from : first ≤ p
  pub to : p < first + 2 ^ file.order

-- for each owned frame of so many, it is known where its bytes are: it is the first frame of one of the folios, or stands in
-- a run of a file of the objects
abbrev pub IsAccounted : ℕ → List (Option object.Object) → List FolioValue → Type 0
IsAccounted frames objects folios = (s : PoolState) (p : ℕ) → states_in objects pool_no ≡ Some (PoolIn s) → p < frames → is_owned s p ≡ true → BeginsAt folios p ⊎ IsFrameOfFile objects p
