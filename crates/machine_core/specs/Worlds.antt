-- The world of a kernel: the state to which the history of each object leads.
use Rattle.std.specs.Prelude.{◌≡◌, ℕ, ◌<◌, unwrap_or, option_map, List, Option, Some}
use Rattle.ho_world.specs.World.{State, World, run, handler_at}
use Rattle.machine_core.specs.declared.object.Object as object
use Rattle.machine_core.specs.Kernels.{KernelValue, object_at}
use Rattle.machine_core.specs.Objects.{start_of, history_of}

-- the state to which an object's history leads from its start
abbrev pub state_of : object.Object → State
state_of o = unwrap_or (run (start_of o).state (history_of o)) (start_of o).state

-- the states of a kernel's objects, by number
abbrev pub states_in : List (Option object.Object) → ℕ → Option State
states_in objects n = option_map state_of (object_at objects n)

-- A world is a kernel's: it has the kernel's update number, and each object of the kernel is in its state there. A kernel
-- has no handlers so far, so no handler of the world has an outgoing file.
pub record IsWorldOf (kernel : KernelValue) (w : World) : Type 0 where
  pub number : w.number ≡ kernel.updates
  pub objects : (n : ℕ) (s : State) → states_in kernel.objects n ≡ Some s → w.at n ≡ s
  pub handlers : (k : ℕ) → k < 4 → (handler_at w k).outgoing.files ≡ 0
