-- How a kernel begins with an image, and why none does.
use Rattle.std.specs.Prelude.{◌≡◌, ◌⊎◌, ℕ, List, codes, string_bytes, Option, Some, Result, Err, IsTrue}
use Rattle.ho_world.specs.Frozen.{Frozen, next}
use Rattle.balance_laws.specs.Keeps.{no_labels}
use Rattle.balance_laws.specs.Sound.{Sound}
use Rattle.image_file.specs.Image.{fault_told}
use Rattle.image_file.specs.declared.reader.ImageError.{ImageError}
use Rattle.kexec_boot.specs.Begins.{BeginsAs}
use Rattle.machine_core.specs.Kernels.{KernelValue}
use Rattle.next_laws.specs.Begins.{are_memfds}
use Rattle.place_text.specs.Places.{place_words}
use Rattle.record_frames.specs.Carries.{Carries}
use Rattle.record_frames.specs.Ram.{Ram}
use Rattle.record_frames.specs.Reading.{BreakAt}
use Rattle.record_frames.specs.declared.place.ImagePlace.{ImagePlace}
use Rattle.handover_cli.specs.ImageRefusals.{fault_word, image_line, IsImageRefusal}
use Rattle.handover_cli.specs.Run.{TellsState}
use Rattle.handover_cli.specs.declared.resuming.Unfit.{Unfit}
use Rattle.handover_cli.specs.declared.resuming.Unfit.TheVariants.{Fault, Refused, Memory}

-- A kernel begins with the state that an image carries, where its bytes are told, and the world that follows is sound.
pub record BeginsWith (told : Option (List ℕ)) (kernel : KernelValue) : Type 0 where
  pub state : Frozen
  pub tells : TellsState told state
  pub begins : BeginsAs 0 state kernel
  pub sound : Sound (next state) no_labels

-- the fact, unless the source failed
abbrev pub UnlessFault : {T : Type 0} → Result T Unfit → Type 0 → Type 0
UnlessFault (Err Fault) fact = Unit {0}
UnlessFault r fact = fact

-- the words are these, where there was memory for them
abbrev pub IsSaid : List ℕ → Unfit → Type 0
IsSaid why (Refused words) = string_bytes words ≡ why
IsSaid why Memory = Unit {0}
IsSaid why Fault = ⊥

-- the words are those of a fault of the bytes, where there was memory for them
abbrev pub IsWordOf : ImageError → Unfit → Type 0
IsWordOf fault (Refused words) = (fault_told fault ≡ Some fault) × (string_bytes words ≡ fault_word fault)
IsWordOf fault Memory = Unit {0}
IsWordOf fault Fault = ⊥

-- frames break a rule first at this place;  they carry a device file
pub record BreaksAt (ram : Ram) (entry : ℕ) (why : List ℕ) : Type 0 where
  pub place : ImagePlace
  pub breaks : BreakAt ram entry place
  pub words : why ≡ place_words place

pub record CarriesDevice (ram : Ram) (entry : ℕ) (why : List ℕ) : Type 0 where
  pub state : Frozen
  pub carries : Carries ram entry state
  pub device : IsTrue (are_memfds state) → ⊥
  pub words : why ≡ codes "later"

-- why no kernel begins with frames
abbrev pub IsIllFor : Ram → ℕ → Unfit → Type 0
IsIllFor ram entry (Refused words) = BreaksAt ram entry (string_bytes words) ⊎ CarriesDevice ram entry (string_bytes words)
IsIllFor ram entry Memory = Unit {0}
IsIllFor ram entry Fault = ⊥

-- why no kernel begins with the bytes that a host holds, where they are told; that they weren't read, and want of memory, say nothing of them
abbrev pub IsUnfitFor : Option (List ℕ) → Unfit → Type 0
IsUnfitFor told (Refused words) = IsImageRefusal told (image_line (string_bytes words))
IsUnfitFor told Memory = Unit {0}
IsUnfitFor told Fault = Unit {0}
