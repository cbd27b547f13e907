-- What is read of a source as an image, and why nothing is.
use Rattle.std.specs.Prelude.{◌≡◌, ℕ, ◌<◌, ◌==◌, Bool, List, length, Option, Some, None}
use Rattle.ho_io.specs.Told.{Tells}
use Rattle.image_file.specs.Image.{Pages, fault_of, frames_of, entry_of}
use Rattle.image_file.specs.declared.loader.LoadError.{LoadError}
use Rattle.image_file.specs.declared.loader.LoadError.TheVariants.{Fault, Image as NoImage}
use Rattle.image_file.specs.declared.reader.ImageError.{ImageError}
use Rattle.image_file.specs.declared.reader.ImageError.TheVariants.{BadHeader, Short, Extra, Memory}

-- the bytes that were left, all of them where they are told, are an image, and these are its frames and its entry number
pub record IsLoaded (left : Option (List ℕ)) (pages : Pages) (entry : ℕ) : Type 0 where
  pub bytes : List ℕ
  pub told : Tells left bytes
  pub whole : fault_of bytes ≡ None
  pub pages_are : pages ≡ frames_of bytes
  pub entry_is : entry ≡ entry_of bytes

-- the bytes that were left, where they are told, have this fault
abbrev pub HasFault : Option (List ℕ) → ImageError → Type 0
HasFault None fault = Unit {0}
HasFault (Some bytes) fault = fault_of bytes ≡ Some fault

-- an error tells the fault of the bytes that were left; one of the source and want of memory say nothing of them
abbrev pub IsFaultOf : Option (List ℕ) → LoadError → Type 0
IsFaultOf left Fault = Unit {0}
IsFaultOf left (NoImage BadHeader) = HasFault left BadHeader
IsFaultOf left (NoImage Short) = HasFault left Short
IsFaultOf left (NoImage Extra) = HasFault left Extra
IsFaultOf left (NoImage Memory) = Unit {0}

-- fewer bytes than these were left, where they are told
abbrev pub IsLess : Option (List ℕ) → ℕ → Type 0
IsLess None size = Unit {0}
IsLess (Some bytes) size = length bytes < size

-- more bytes than these were left, where they are told
abbrev pub IsMore : Option (List ℕ) → ℕ → Type 0
IsMore None size = Unit {0}
IsMore (Some bytes) size = size < length bytes

-- why so many bytes weren't read: the source failed, or fewer were left
abbrev pub IsCut : Option (List ℕ) → ℕ → LoadError → Type 0
IsCut left size Fault = Unit {0}
IsCut left size (NoImage Short) = IsLess left size
IsCut left size e = ⊥

-- why it wasn't seen that nothing was left: the source failed, or something was left
abbrev pub IsOver : Option (List ℕ) → LoadError → Type 0
IsOver left Fault = Unit {0}
IsOver left (NoImage Extra) = IsMore left 0
IsOver left e = ⊥

-- why exactly so many bytes weren't read to the end: the source failed, fewer or more were left, or there was no memory for them
abbrev pub IsMiscount : Option (List ℕ) → ℕ → LoadError → Type 0
IsMiscount left size Fault = Unit {0}
IsMiscount left size (NoImage Short) = IsLess left size
IsMiscount left size (NoImage Extra) = IsMore left size
IsMiscount left size (NoImage Memory) = Unit {0}
IsMiscount left size (NoImage BadHeader) = ⊥

-- a byte is 0
abbrev pub zero_byte : ℕ → Bool
zero_byte b = b == 0
