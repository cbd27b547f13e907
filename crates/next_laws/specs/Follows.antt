-- What a carried state gives to the kernel that begins with it.
use Rattle.std.specs.Prelude.{◌≡◌, ℕ, ◌*◌, ◌^◌, ◌≤◌, IsTrue, length}
use Rattle.std.specs.List.{IsDistinct, AllByRecursion}
use Rattle.ho_base.specs.declared.limits.TheConstants.{PAGE_BYTES, MAX_ORDER, FILE_BYTES, IN_SLOTS, FILES}
use Rattle.ho_events.specs.Lists.{same_bytes, pieces}
use Rattle.ho_world.specs.Frozen.{CarriedFile, Frozen, carried_files}
use Rattle.pool_core.specs.PoolAdopting.{CanAdopt}
use Rattle.record_frames.specs.Ram.{Ram}
use Rattle.record_frames.specs.Carries.{Carries}
use Rattle.record_frames.specs.Laws.{Holds}
use Rattle.session_core.specs.SessionShown.{TokensRise}
use Rattle.next_laws.specs.Begins.{are_memfds, all_runs, names_of, numbered, NoBounds}

-- A file has an order that runs may have, at most the greatest size, a position in it, and a run for each index.
pub record FitsFile (c : CarriedFile) : Type 0 where
  pub small : c.order ≤ MAX_ORDER
  pub within : length c.bytes ≤ FILE_BYTES
  pub position : c.position ≤ length c.bytes
  pub count : length c.runs ≡ pieces (length c.bytes) (PAGE_BYTES * 2 ^ c.order)

-- A kernel can begin with this: no two sessions have the same name, and there is an incoming slot for each; there is a file number
-- for each file, and the tokens of each session rise; there is no bound record; a machine of this shape that is switched on
-- can hand out all runs; and each file fits.
pub record CanBegin (f : Frozen) : Type 0 where
  pub distinct : IsDistinct same_bytes (names_of f.sessions)
  pub few : length f.sessions ≤ IN_SLOTS
  pub files : length (carried_files f) ≤ FILES
  pub tokens : AllByRecursion (λ s. (n : ℕ) → TokensRise (numbered n s.files)) f.sessions
  pub bounds : NoBounds f.bounds
  pub free : CanAdopt f.shape (all_runs (carried_files f))
  pub fits : AllByRecursion FitsFile (carried_files f)

-- A kernel can begin with what frames carry that hold pages of bytes, where each file is a memfd and the shape has as many
-- frames.
abbrev pub CarriedCanBegin : Type 0
CarriedCanBegin =
    (ram : Ram) (entry : ℕ) (f : Frozen) → f.shape.frames ≡ ram.count → Holds ram → IsTrue (are_memfds f) → Carries ram entry f → CanBegin f
