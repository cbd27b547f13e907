-- When a boot is refused.
use Rattle.std.specs.Prelude.{◌≡◌, ◌≢◌, ◌⊎◌, ℕ, IsTrue}
use Rattle.ho_base.specs.ShapeRule.{Layout}
use Rattle.ho_base.specs.declared.numbers.Blob.{Blob}
use Rattle.ho_world.specs.Frozen.{Frozen}
use Rattle.record_frames.specs.Ram.{Ram}
use Rattle.record_frames.specs.Carries.{Carries}
use Rattle.record_frames.specs.Reading.{BreakAt}
use Rattle.record_frames.specs.Sheeted.{ram_of}
use Rattle.record_frames.specs.declared.place.ImagePlace.{ImagePlace}
use Rattle.record_frames.specs.declared.place.ImagePlace.TheVariants.{Root}
use Rattle.scratch_area.specs.declared.handoff.Handoff.{Handoff}
use Rattle.next_laws.specs.Begins.{are_memfds}
use Rattle.kexec_boot.specs.Loaded.{with_blob}
use Rattle.kexec_boot.specs.declared.reading.BootError.{BootError}
use Rattle.kexec_boot.specs.declared.reading.BootError.TheVariants.{BadImage, Unbuilt, Memory}

-- Why frames weren't read: their rules break at this place first. Of want of memory nothing is said.
abbrev pub IsBroken : Ram → ℕ → BootError → Type 0
IsBroken ram entry (BadImage p) = BreakAt ram entry p
IsBroken ram entry Unbuilt = ⊥
IsBroken ram entry Memory = Unit {0}

-- frames carry a state of another shape
pub record CarryOther (shape : Layout) (ram : Ram) (entry : ℕ) : Type 0 where
  pub state : Frozen
  pub carries : Carries ram entry state
  pub other : state.shape ≢ shape

-- The frames break a rule at this place, or the place is the root and they carry a state of another shape.
abbrev pub IsIll : Layout → Ram → ℕ → ImagePlace → Type 0
IsIll shape ram entry p = BreakAt ram entry p ⊎ ((p ≡ Root) × CarryOther shape ram entry)

-- Why frames of a machine of this shape aren't booted from: they are ill; or a file that they carry is a device file.
abbrev pub IsUnread : Layout → Ram → ℕ → BootError → Type 0
IsUnread shape ram entry (BadImage p) = IsIll shape ram entry p
IsUnread shape ram entry Unbuilt = (f : Frozen) × Carries ram entry f × (f.shape ≡ shape) × ¬ (IsTrue (are_memfds f))
IsUnread shape ram entry Memory = Unit {0}

-- Why a boot is refused. `BadImage`: the frames as the program left them are ill at this place, and so they carried nothing of
-- the machine's shape before. `Unbuilt`: they carry nothing whose files are all memfds. Of want of memory nothing is said.
abbrev pub IsBootRefusal : Handoff → Blob → BootError → Type 0
IsBootRefusal h blob (BadImage p) =
    IsIll h.shape (with_blob h.shape blob (ram_of h.frames)) h.entry.0 p
    × ((f : Frozen) → Carries (ram_of h.frames) h.entry.0 f → f.shape ≢ h.shape)
IsBootRefusal h blob Unbuilt = (f : Frozen) → Carries (ram_of h.frames) h.entry.0 f → ¬ (IsTrue (are_memfds f))
IsBootRefusal h blob Memory = Unit {0}

-- only memory was wanted
abbrev pub IsWant : BootError → Type 0
IsWant (BadImage p) = ⊥
IsWant Unbuilt = ⊥
IsWant Memory = Unit {0}
