-- What is written of an image that no kernel begins with.
use Rattle.std.specs.Prelude.{◌≡◌, ◌⊎◌, ℕ, List, [], ◌++◌, codes, Option, Some, None, IsTrue}
use Rattle.ho_world.specs.Frozen.{Frozen}
use Rattle.image_file.specs.Image.{fault_of, entry_of}
use Rattle.image_file.specs.declared.reader.ImageError.{ImageError}
use Rattle.image_file.specs.declared.reader.ImageError.TheVariants.{BadHeader, Short, Extra, Memory as NoRoom}
use Rattle.next_laws.specs.Begins.{are_memfds}
use Rattle.phys_frames.specs.Memory.{Memory}
use Rattle.place_text.specs.Places.{place_words}
use Rattle.record_frames.specs.Reading.{BreakAt}
use Rattle.record_frames.specs.Sheeted.{ram_of}
use Rattle.record_frames.specs.declared.place.ImagePlace.{ImagePlace}
use Rattle.handover_cli.specs.Images.{IsReadFrom, ReadsState}

-- the line that says why an image is refused
abbrev pub image_line : List ℕ → List ℕ
image_line why = codes "image refused: " ++ (why ++ codes "\n")

-- the word of a fault of the bytes; of want of memory there is none
abbrev pub fault_word : ImageError → List ℕ
fault_word BadHeader = codes "header"
fault_word Short = codes "short"
fault_word Extra = codes "extra"
fault_word NoRoom = []

-- the bytes have this fault
pub record HasFault (bytes line : List ℕ) : Type 0 where
  pub fault : ImageError
  pub is : fault_of bytes ≡ Some fault
  pub word : line ≡ image_line (fault_word fault)

-- the frames that are read from the bytes break a rule first at this place
pub record HasBreak (bytes line : List ℕ) : Type 0 where
  pub frames : Memory
  pub read : IsReadFrom bytes frames
  pub place : ImagePlace
  pub breaks : BreakAt (ram_of frames) (entry_of bytes) place
  pub word : line ≡ image_line (place_words place)

-- the frames that are read from the bytes carry a device file, which isn't built yet
pub record HasDevice (bytes line : List ℕ) : Type 0 where
  pub state : Frozen
  pub carried : ReadsState state bytes
  pub device : IsTrue (are_memfds state) → ⊥
  pub word : line ≡ image_line (codes "later")

-- why no kernel begins with these bytes, where they are told, and the line that tells it
abbrev pub IsImageRefusal : Option (List ℕ) → List ℕ → Type 0
IsImageRefusal None line = Unit {0}
IsImageRefusal (Some bytes) line = HasFault bytes line ⊎ HasBreak bytes line ⊎ HasDevice bytes line
