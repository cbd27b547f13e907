-- How a kernel is built from the parts that it begins with.
use Rattle.std.specs.Prelude.{◌≡◌, ◌≢◌, ℕ, ◌+◌, ◌<◌, ◌≤◌, List, [], ◌∷◌, length, map, replicate, slice_index_or, Option, None, Some}
use Rattle.std.specs.FinMap as finmap
use Rattle.ho_base.specs.Objects.{pool_no}
use Rattle.ho_events.specs.Handler.{cold_handler}
use Rattle.ho_world.specs.Sequences.{Labels}
use Rattle.ho_world.specs.World.{State, SessionIn, FileIn, by_number}
use Rattle.ho_events.specs.Session.{Free}
use Rattle.machine_core.specs.declared.object.Object.{Object}
use Rattle.machine_core.specs.declared.building.Plan.{Plan}
use Rattle.machine_core.specs.LabelsShown.{agent_count}
use Rattle.machine_core.specs.Kernels.{object_at, slot_state, IsAt}
use Rattle.machine_core.specs.Objects.{NoSpot, SessionSpot, FileSpot, spot_at, object_count, start_of, history_of}

-- there is room for all objects of a kernel, and a list of labels for each agent; no object is there, and no label
pub record HavePlaces (objects : List (Option Object)) (capacity : ℕ) (labels : List Labels) : Type 0 where
  pub empty : objects ≡ []
  pub room : object_count ≤ capacity
  pub unbound : labels ≡ replicate agent_count finmap.empty

-- the states in which the objects of a kernel with these parts begin
abbrev pub planned : Plan → ℕ → State
planned plan = by_number plan.pool.value.start plan.registry.value.start (λ k. cold_handler) (slot_state (map (λ s. s.start) plan.sessions.value.items)) (λ f. slice_index_or (map (λ f. f.start) plan.files.value.items) f None)

-- an object of the kernel that begins with these parts: it is as it begins, without a history
pub record IsNew (plan : Plan) (n : ℕ) (o : Object) : Type 0 where
  pub here : IsAt plan.pool.value.shape plan.pool.value.home n o
  pub state : (start_of o).state ≡ planned plan n
  pub history : history_of o ≡ []

-- what is at a number while the kernel is built, before the pool: the object that has it
abbrev pub IsBuilt : Plan → ℕ → Option Object → Type 0
IsBuilt plan n None = n ≢ pool_no → spot_at n ≡ NoSpot
IsBuilt plan n (Some o) = (n ≢ pool_no) × IsNew plan n o

-- the places of a kernel that were built so far
unfoldable pub AreBuilt : Plan → List (Option Object) → Type 0
AreBuilt plan objects = (n : ℕ) → n < length objects → IsBuilt plan n (object_at objects n)

-- these objects may come next, from this number on
abbrev pub AreNext : Plan → ℕ → List (Option Object) → Type 0
AreNext plan n [] = Unit {0}
AreNext plan n (o ∷ objects) = IsBuilt plan n o × AreNext plan (n + 1) objects

-- the session slots from one number up to another begin free;  the files begin absent
unfoldable pub BeginFree : Plan → ℕ → ℕ → Type 0
BeginFree plan from to = (n : ℕ) → from ≤ n → n < to → (spot_at n ≡ SessionSpot) × (planned plan n ≡ SessionIn Free)

unfoldable pub BeginAbsent : Plan → ℕ → ℕ → Type 0
BeginAbsent plan from to = (n : ℕ) → from ≤ n → n < to → (spot_at n ≡ FileSpot) × (planned plan n ≡ FileIn None)
