-- The kernel that begins with the frames of an image, and when there is none.
use Rattle.std.specs.Prelude.{◌≡◌, ℕ, IsTrue}
use Rattle.ho_world.specs.Frozen.{Frozen}
use Rattle.machine_core.specs.Kernels.{KernelValue}
use Rattle.record_frames.specs.Ram.{Ram}
use Rattle.record_frames.specs.Carries.{Carries}
use Rattle.record_frames.specs.Reading.{BreakAt}
use Rattle.next_laws.specs.Begins.{are_memfds}
use Rattle.kexec_boot.specs.Begins.{BeginsAs}
use Rattle.kexec_boot.specs.declared.reading.BootError.{BootError}
use Rattle.kexec_boot.specs.declared.reading.BootError.TheVariants.{BadImage, Unbuilt, Memory}

-- A kernel of this number begins with what frames carry: all its files are memfds, and its shape has as many frames.
pub record BeginsFrom (nth : ℕ) (ram : Ram) (entry : ℕ) (k : KernelValue) : Type 0 where
  pub state : Frozen
  pub carries : Carries ram entry state
  pub frames : state.shape.frames ≡ ram.count
  pub memfds : IsTrue (are_memfds state)
  pub begins : BeginsAs nth state k

-- Why no kernel begins with frames. `BadImage`: the first place whose rules break. `Unbuilt`: a file that they carry is a device
-- file. Of want of memory nothing is said.
abbrev pub IsImageRefusal : Ram → ℕ → BootError → Type 0
IsImageRefusal ram entry (BadImage p) = BreakAt ram entry p
IsImageRefusal ram entry Unbuilt = (f : Frozen) × Carries ram entry f × ¬ (IsTrue (are_memfds f))
IsImageRefusal ram entry Memory = Unit {0}
