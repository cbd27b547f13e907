-- The kernel that begins with what was carried.
use Rattle.std.specs.Prelude.{◌≡◌, ℕ, [], replicate}
use Rattle.std.specs.FinMap as finmap
use Rattle.ho_world.specs.Frozen.{Frozen, next}
use Rattle.machine_core.specs.Kernels.{KernelValue, begun_in, histories_in, if_built}
use Rattle.machine_core.specs.LabelsShown.{agent_count}
use Rattle.machine_core.specs.Objects.{spot_at}

-- A kernel begins with what was carried: it has this number, the carried update number and the carried shape; each object began as it
-- is in the world that follows; there is no entry, no agent has a label, and no stamp.
pub record BeginsAs (nth : ℕ) (f : Frozen) (k : KernelValue) : Type 0 where
  pub number : k.number ≡ nth
  pub updates : k.updates ≡ f.number
  pub shape : k.shape ≡ f.shape
  pub begun : (n : ℕ) → begun_in k.objects n ≡ if_built (spot_at n) ((next f).at n)
  pub histories : (n : ℕ) → histories_in k.objects n ≡ []
  pub labels : k.labels ≡ replicate agent_count finmap.empty
  pub base : k.base ≡ 0
