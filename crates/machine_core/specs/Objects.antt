-- The objects of a kernel: their numbers, kinds, starts and histories.
use Rattle.std.specs.Prelude.{◌≡◌, ℕ, ◌≤◌, ◌==◌, nat_lt, if◌then◌else◌, is_some, IsTrue, List, Option, None, Some}
use Rattle.ho_base.specs.ShapeRule.{Layout}
use Rattle.ho_base.specs.declared.limits.TheConstants.{FILES}
use Rattle.ho_base.specs.Objects.{pool_no, registry_no, session_no, file_no}
use Rattle.ho_events.specs.declared.entry.Entry.{Entry}
use Rattle.ho_world.specs.World.{State, PoolIn, RegistryIn, SessionIn, FileIn, run}
use Rattle.ho_world.specs.Logs.{Known}
use Rattle.phys_frames.specs.Homes.{HomeId}
use Rattle.machine_core.specs.declared.object.Object as object
use Rattle.machine_core.specs.declared.object.Object.TheVariants.{Pool, Registry, Session, File}

-- which kind of object a number has: none is built at a handler's number, or past the last file's
pub data Spot : Type 0 where
  PoolSpot : Spot
  RegistrySpot : Spot
  SessionSpot : Spot
  FileSpot : Spot
  NoSpot : Spot

abbrev pub spot_at : ℕ → Spot
spot_at n =
    if n == pool_no then PoolSpot
    else if n == registry_no then RegistrySpot
    else if nat_lt n (session_no 0) then NoSpot
    else if nat_lt n (file_no 0) then SessionSpot
    else if nat_lt n (file_no FILES) then FileSpot
    else NoSpot

-- how many object numbers there are
abbrev pub object_count : ℕ
object_count = file_no FILES

abbrev pub spot_of : object.Object → Spot
spot_of (Pool p) = PoolSpot
spot_of (Registry r) = RegistrySpot
spot_of (Session s) = SessionSpot
spot_of (File f) = FileSpot

-- what an object is before the first entry of its history: its number and state, and for the pool and a file the home
-- of every folio that it has
pub record Start : Type 0 where
  pub number : ℕ
  pub state : State
  pub home : Option HomeId

abbrev pub number_of : object.Object → ℕ
number_of (Pool p) = pool_no
number_of (Registry r) = registry_no
number_of (Session s) = s.number
number_of (File f) = f.number

abbrev pub start_of : object.Object → Start
start_of (Pool p) = record { number = pool_no; state = PoolIn p.start; home = Some p.home }
start_of (Registry r) = record { number = registry_no; state = RegistryIn r.start; home = None }
start_of (Session s) = record { number = s.number; state = SessionIn s.start; home = None }
start_of (File f) = record { number = f.number; state = FileIn f.start; home = Some f.home }

abbrev pub history_of : object.Object → List Entry
history_of (Pool p) = p.history
history_of (Registry r) = r.history
history_of (Session s) = s.history
history_of (File f) = f.history

-- for how many more entries there is room
abbrev pub room_of : object.Object → ℕ
room_of (Pool p) = p.room
room_of (Registry r) = r.room
room_of (Session s) = s.room
room_of (File f) = f.room

-- a session slot has memory for as many more tokens
abbrev pub HasTokenRoom : ℕ → object.Object → Type 0
HasTokenRoom n (Session s) = n ≤ s.spare
HasTokenRoom n o = Unit {0}

-- the object as somebody knows it who has it in hand
abbrev pub known_of : object.Object → Known
known_of o = record { start = (start_of o).state; history = history_of o }

-- the history is a run of the object's steps from its start
abbrev pub IsRunOf : object.Object → Type 0
IsRunOf o = IsTrue (is_some (run (start_of o).state (history_of o)))

-- the object is one of a kernel of a machine of this shape, whose frames have this home
abbrev pub IsOfMachine : Layout → HomeId → object.Object → Type 0
IsOfMachine shape home (Pool p) = (p.shape ≡ shape) × (p.home ≡ home)
IsOfMachine shape home (Registry r) = Unit {0}
IsOfMachine shape home (Session s) = Unit {0}
IsOfMachine shape home (File f) = f.home ≡ home
