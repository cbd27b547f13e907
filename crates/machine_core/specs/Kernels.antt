-- A kernel at rest: its objects by number, the labels of its agents, and how it begins.
use Rattle.std.specs.Prelude.{◌≡◌, ℕ, ◌+◌, ◌-◌, ◌<◌, nat_le, nat_lt, if◌then◌else◌, is_some, IsTrue, List, [], ◌∷◌, length, slice_index_or, Option, None, Some}
use Rattle.std.specs.List.{list_all}
use Rattle.ho_base.specs.ShapeRule.{Layout}
use Rattle.ho_base.specs.declared.limits.TheConstants.{OUT_SLOTS}
use Rattle.ho_base.specs.Objects.{session_no, file_no}
use Rattle.ho_events.specs.Pool.{PoolState}
use Rattle.ho_events.specs.Registry.{RegistryState}
use Rattle.ho_events.specs.Handler.{cold_handler}
use Rattle.ho_events.specs.Session.{SessionState, Free}
use Rattle.ho_events.specs.File.{FileState}
use Rattle.ho_events.specs.declared.entry.Entry.{Entry}
use Rattle.ho_world.specs.Sequences.{Labels}
use Rattle.ho_world.specs.World.{State, run, cold, by_number}
use Rattle.phys_frames.specs.Homes.{HomeId}
use Rattle.session_core.specs.SessionValues.{SessionValue}
use Rattle.memfd_file.specs.FileValues.{FileValue}
use Rattle.machine_core.specs.declared.object.Object as object
use Rattle.machine_core.specs.declared.object.Object.TheVariants.{Pool, Registry, Session, File}
use Rattle.machine_core.specs.Agents.{state_in}
use Rattle.machine_core.specs.Objects.{Start, Spot, NoSpot, spot_at, spot_of, object_count, number_of, start_of, history_of, IsOfMachine}

-- a kernel at rest: its number, its update number, its machine's shape and the home of its frames, its objects by
-- number, the labels of its agents by agent number, and the greatest stamp so far
pub record KernelValue : Type 0 where
  pub number : ℕ
  pub updates : ℕ
  pub shape : Layout
  pub home : HomeId
  pub objects : List (Option object.Object)
  pub labels : List Labels
  pub base : ℕ

-- the object at a number, its start and its history
abbrev pub object_at : List (Option object.Object) → ℕ → Option object.Object
object_at objects n = slice_index_or objects n None

abbrev pub start_in : Option object.Object → Option Start
start_in None = None
start_in (Some o) = Some (start_of o)

abbrev pub history_in : Option object.Object → List Entry
history_in None = []
history_in (Some o) = history_of o

-- the starts of objects, the states in which they began, and their histories, by object number
abbrev pub starts_in : List (Option object.Object) → ℕ → Option Start
starts_in objects n = start_in (object_at objects n)

abbrev pub begun_in : List (Option object.Object) → ℕ → Option State
begun_in objects n = state_in (starts_in objects n)

abbrev pub histories_in : List (Option object.Object) → ℕ → List Entry
histories_in objects n = history_in (object_at objects n)

-- an object of a kernel of this machine that has this number
pub record IsAt (shape : Layout) (home : HomeId) (n : ℕ) (o : object.Object) : Type 0 where
  pub number : number_of o ≡ n
  pub kind : spot_of o ≡ spot_at n
  pub machine : IsOfMachine shape home o

-- what is at a number: the object that has it, and none at a number without an object
abbrev pub IsSlot : Layout → HomeId → ℕ → Option object.Object → Type 0
IsSlot shape home n None = spot_at n ≡ NoSpot
IsSlot shape home n (Some o) = IsAt shape home n o

-- a history is a run of the steps of the object that began so
abbrev pub IsRunAt : Option Start → List Entry → Type 0
IsRunAt None h = Unit {0}
IsRunAt (Some s) h = IsTrue (is_some (run s.state h))

-- no stamp of entries is greater than this
abbrev pub AreUpTo : ℕ → List Entry → Type 0
AreUpTo t es = IsTrue (list_all (λ e. nat_le e.stamp t) es)

-- each object is at its number with a history that is a run, and no stamp is greater than the base
pub record KeepsKernel (shape : Layout) (home : HomeId) (base : ℕ) (objects : List (Option object.Object)) : Type 0 where
  pub count : length objects ≡ object_count
  pub slots : (n : ℕ) → n < object_count → IsSlot shape home n (object_at objects n)
  pub runs : (n : ℕ) → IsRunAt (starts_in objects n) (histories_in objects n)
  pub stamps : (n : ℕ) → AreUpTo base (histories_in objects n)

-- the state in which an object of a kind begins; a number without an object has none
abbrev pub if_built : Spot → State → Option State
if_built NoSpot s = None
if_built spot s = Some s

-- the states in which the objects of a cold kernel begin
abbrev pub cold_begun : Layout → ℕ → Option State
cold_begun shape n = if_built (spot_at n) ((cold shape).at n)

-- the session in a slot, where these are the incoming ones
abbrev pub slot_state : List SessionState → ℕ → SessionState
slot_state sessions s = if nat_lt s OUT_SLOTS then Free else slice_index_or sessions (s - OUT_SLOTS) Free

-- the states in which the objects of a kernel begin that has these: every other slot is free, and every other file absent
abbrev pub begins_with : PoolState → RegistryState → List SessionState → List (Option FileState) → ℕ → Option State
begins_with pool registry sessions files n =
    if_built (spot_at n) (by_number pool registry (λ k. cold_handler) (slot_state sessions) (λ f. slice_index_or files f None) n)

-- session slots from this one on, each with its own number, and without a history
abbrev pub AreWaiting : ℕ → List SessionValue → Type 0
AreWaiting slot [] = Unit {0}
AreWaiting slot (s ∷ sessions) = (s.number ≡ session_no slot) × (s.history ≡ []) × AreWaiting (slot + 1) sessions

-- files of this home from this one on, each with its own number, and without a history
abbrev pub AreHeld : HomeId → ℕ → List FileValue → Type 0
AreHeld home file [] = Unit {0}
AreHeld home file (f ∷ files) = (f.number ≡ file_no file) × (f.home ≡ home) × (f.history ≡ []) × AreHeld home (file + 1) files

-- what is left at a place where the pool was taken away: no pool, and a file of this home
abbrev pub IsLeft : HomeId → Option object.Object → Type 0
IsLeft home None = Unit {0}
IsLeft home (Some (Pool p)) = ⊥
IsLeft home (Some (Registry r)) = Unit {0}
IsLeft home (Some (Session s)) = Unit {0}
IsLeft home (Some (File f)) = f.home ≡ home
