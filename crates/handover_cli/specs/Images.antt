-- The images that a run makes where they are asked for: one for each kexec that ends a kernel.
use Rattle.std.specs.Prelude.{◌≡◌, ◌⊎◌, ℕ, ◌+◌, ◌<◌, List, [], ◌∷◌, ◌++◌, length, take, codes, decimal, Option, Some, None}
use Rattle.ho_events.specs.declared.entry.Entry.{Entry}
use Rattle.ho_io.specs.Told.{told_with, with_item, with_sink, IsOneOf}
use Rattle.ho_io.specs.declared.host.Way.{Way}
use Rattle.ho_io.specs.declared.host.Way.TheVariants.{Make}
use Rattle.ho_world.specs.Entries.{world_of}
use Rattle.ho_world.specs.Frozen.{Frozen, frozen}
use Rattle.ho_world.specs.World.{World}
use Rattle.image_file.specs.Image.{image, fault_of, frames_of, entry_of}
use Rattle.phys_frames.specs.Memory.{Memory}
use Rattle.record_frames.specs.Carries.{Carries}
use Rattle.record_frames.specs.Sheeted.{ram_of}

-- what a host tells: its output, the files that were made, each with its name and bytes, and what it was asked for
pub record Seen : Type 0 where
  pub out : Option (List ℕ)
  pub made : Option (List (List ℕ × List ℕ))
  pub asked : Option (List (Way × List ℕ))

abbrev pub seen : Option (List ℕ) → Option (List (List ℕ × List ℕ)) → Option (List (Way × List ℕ)) → Seen
seen out made asked = record { out = out; made = made; asked = asked }

-- no file was made, and nothing was asked for
pub record IsUnasked (before now : Seen) : Type 0 where
  pub made : now.made ≡ before.made
  pub asked : now.asked ≡ before.asked

-- the name of the k-th image: the name that was given, a dot and k
abbrev pub image_name : List ℕ → ℕ → List ℕ
image_name file k = file ++ (codes "." ++ decimal k)

-- These frames are what is read from bytes that have no fault as an image: so many pages as their header says.
pub record IsReadFrom (bytes : List ℕ) (frames : Memory) : Type 0 where
  pub whole : fault_of bytes ≡ None
  pub pages : frames.pages ≡ frames_of bytes

-- the frames that are read from bytes carry a state, from the entry frame on that the bytes say
pub record ReadsState (f : Frozen) (bytes : List ℕ) : Type 0 where
  pub frames : Memory
  pub read : IsReadFrom bytes frames
  pub carries : Carries (ram_of frames) (entry_of bytes) f

-- these frames and this entry number are what is read from their image
pub record IsReadBack (frames : Memory) (entry : ℕ) : Type 0 where
  pub read : IsReadFrom (image frames.pages entry) frames
  pub entry_is : entry_of (image frames.pages entry) ≡ entry

-- bytes are the image of frames that are read back from it, and these carry a state
pub record IsImageOf (f : Frozen) (bytes : List ℕ) : Type 0 where
  pub frames : Memory
  pub entry : ℕ
  pub is : bytes ≡ image frames.pages entry
  pub back : IsReadBack frames entry
  pub carries : Carries (ram_of frames) entry f

-- bytes are some from the front of such an image, and not all of them
pub record IsPartOf (f : Frozen) (bytes : List ℕ) : Type 0 where
  pub whole : List ℕ
  pub image : IsImageOf f whole
  pub count : ℕ
  pub less : count < length whole
  pub is : bytes ≡ take count whole

-- images of the kernels of a history from kernel k on: each carries what was frozen of its kernel's world
unfoldable pub AreImagesFrom : World → List Entry → ℕ → List (List ℕ) → Type 0
AreImagesFrom start es k [] = Unit {0}
AreImagesFrom start es k (bytes ∷ images) = IsImageOf (frozen (world_of start es k)) bytes × AreImagesFrom start es (k + 1) images

-- the images of the first n kernels
pub record AreImages (start : World) (es : List Entry) (n : ℕ) (images : List (List ℕ)) : Type 0 where
  pub count : length images ≡ n
  pub each : AreImagesFrom start es 0 images

-- what is seen after a file of this name and these bytes was made; a host that doesn't tell its bytes adds none
abbrev pub with_file : Seen → List ℕ → List ℕ → Seen
with_file s name bytes = record s {
  made = with_sink s.made (told_with s.out name) (told_with s.out bytes);
  asked = with_item s.asked (Make, name);
}

-- the same of the k-th image
abbrev pub with_image : Seen → List ℕ → ℕ → List ℕ → Seen
with_image s file k bytes = with_file s (image_name file k) bytes

-- the same of images, the first of them as the k-th
unfoldable pub with_images : Seen → List ℕ → ℕ → List (List ℕ) → Seen
with_images s file k [] = s
with_images s file k (bytes ∷ images) = with_images (with_image s file k bytes) file (k + 1) images

-- the images of the first n kernels were made, and nothing else
pub record MadeImages (start : World) (es : List Entry) (n : ℕ) (file : List ℕ) (before now : Seen) : Type 0 where
  pub images : List (List ℕ)
  pub are : AreImages start es n images
  pub only : IsUnasked (with_images before file 1 images) now

-- the same where images are asked for under a name; nothing was made where they aren't
abbrev pub Made : World → List Entry → ℕ → Option (List ℕ) → Seen → Seen → Type 0
Made start es n None before now = IsUnasked before now
Made start es n (Some file) before now = MadeImages start es n file before now

-- of the k-th image nothing was made, or a part
abbrev pub MadeSome : Frozen → List ℕ → ℕ → Seen → Seen → Type 0
MadeSome f file k before now =
    ((now.made ≡ before.made) × IsOneOf before.asked (with_item before.asked (Make, image_name file k)) now.asked)
    ⊎ ((part : List ℕ) × IsPartOf f part × IsUnasked (with_image before file k part) now)

-- the images of the first n kernels were made, and that of the next one not whole
pub record MadeShort (start : World) (es : List Entry) (n : ℕ) (file : List ℕ) (before now : Seen) : Type 0 where
  pub images : List (List ℕ)
  pub are : AreImages start es n images
  pub some : MadeSome (frozen (world_of start es n)) file (n + 1) (with_images before file 1 images) now

abbrev pub MadeLess : World → List Entry → ℕ → Option (List ℕ) → Seen → Seen → Type 0
MadeLess start es n None before now = ⊥
MadeLess start es n (Some file) before now = MadeShort start es n file before now
