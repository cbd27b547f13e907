-- What a block leaves on the host where images are asked for.
use Rattle.std.specs.Prelude.{◌≡◌, ◌⊎◌, ℕ, ◌+◌, ◌<◌, List, length, take, Option, Some, None}
use Rattle.ho_events.specs.Text.{text_of}
use Rattle.ho_io.specs.Told.{behind, with_item, IsOneOf}
use Rattle.ho_io.specs.declared.host.Way.TheVariants.{Make}
use Rattle.image_file.specs.Image.{image}
use Rattle.handover_cli.specs.Images.{Seen, IsUnasked, image_name, with_file}
use Rattle.handover_cli.specs.Due.{WroteFront}
use Rattle.handover_cli.specs.declared.rebooting.BlockDone.{BlockDone}
use Rattle.handover_cli.specs.declared.rebooting.Ended.{Ended}
use Rattle.handover_cli.specs.declared.rebooting.Next.{Next}
use Rattle.handover_cli.specs.declared.rebooting.Next.TheVariants as next

-- the file was not made, or has some of these bytes from the front and not all
abbrev pub FileSome : Seen → List ℕ → List ℕ → Seen → Type 0
FileSome before name bytes now =
    ((now.made ≡ before.made) × IsOneOf before.asked (with_item before.asked (Make, name)) now.asked)
    ⊎ ((n : ℕ) × (n < length bytes) × IsUnasked (with_file before name (take n bytes)) now)

-- the image of what an ended kernel left
abbrev pub image_left : Ended → List ℕ
image_left e = image e.handoff.frames.pages e.handoff.entry.0

-- it was written, where images are asked for and the kernel ended
abbrev pub KeptAll : Next → Option (List ℕ) → Seen → Seen → Type 0
KeptAll (next.Same kernel) file before now = IsUnasked before now
KeptAll (next.Ended e) None before now = IsUnasked before now
KeptAll (next.Ended e) (Some file) before now = IsUnasked (with_file before (image_name file (e.kernel + 1)) (image_left e)) now

-- it was not made, or not written whole
abbrev pub KeptSome : Next → Option (List ℕ) → Seen → Seen → Type 0
KeptSome (next.Same kernel) file before now = ⊥
KeptSome (next.Ended e) None before now = ⊥
KeptSome (next.Ended e) (Some file) before now = FileSome before (image_name file (e.kernel + 1)) (image_left e) now

-- the entries of a block were written, and the image of a kernel that it ended
pub record WroteBlock (done : BlockDone) (file : Option (List ℕ)) (before now : Seen) : Type 0 where
  pub written : now.out ≡ behind before.out (text_of done.entries.items)
  pub kept : KeptAll done.next file before now

-- memory was wanted before the entries, or before the image
pub record WroteShort (done : BlockDone) (file : Option (List ℕ)) (before now : Seen) : Type 0 where
  pub silent : now.out ≡ before.out
  pub kept : IsUnasked before now ⊎ KeptAll done.next file before now

-- a write failed: that of the entries, or that of the image before them
abbrev pub WroteLess : BlockDone → Option (List ℕ) → Seen → Seen → Type 0
WroteLess done file before now =
    (WroteFront (λ text. text ≡ text_of done.entries.items) before.out now.out × KeptAll done.next file before now)
    ⊎ ((now.out ≡ before.out) × KeptSome done.next file before now)
