-- The entry frame as the program reads it.
use Rattle.std.specs.Prelude.{◌≡◌, ℕ, List, Some, Result, Ok, Err, IsTrue}
use Rattle.fdt_blob.specs.declared.tree.FdtPlace.{FdtPlace}
use Rattle.fdt_blob.specs.Trees.{Tree}
use Rattle.fdt_blob.specs.Tokens.{Item}
use Rattle.fdt_blob.specs.Places.{Carries}
use Rattle.fdt_blob.specs.Blob.{Spells, BreaksAt}
use Rattle.record_frames.specs.Ram.{Ram, is_frame}
use Rattle.record_frames.specs.Rules.{version_1, versions}
use Rattle.record_frames.specs.Handover.{root_of, luo_of}
use Rattle.record_frames.specs.Reading.{BreakAt}
use Rattle.record_frames.specs.TreeRead.{luo_view}
use Rattle.record_frames.specs.declared.place.ImagePlace.{ImagePlace}
use Rattle.record_frames.specs.declared.entry.HandoverRead.{HandoverRead}

-- a blob was opened, with the items of the tree that it spells; or the first place of it whose rules break
abbrev pub TellsReader : List ℕ → Result (List Item) FdtPlace → Type 0
TellsReader bytes (Ok items) = (t : Tree) × Spells bytes t × Carries items t
TellsReader bytes (Err place) = BreaksAt bytes place

-- the entry frame spells a tree whose root and child say this
pub record IsHandover (ram : Ram) (entry : ℕ) (h : HandoverRead) : Type 0 where
  pub tree : Tree
  pub luo : Tree
  pub within : IsTrue (is_frame ram.count entry)
  pub spelled : Spells (ram.page entry) tree
  pub root : root_of versions ram.count tree ≡ Some (record { version = version_1; shape = h.shape; chunk = h.chunk; luo = luo })
  pub child : luo_of version_1 luo ≡ Some (luo_view h.luo)

-- the entry frame was read, or the first place whose rules break
abbrev pub TellsHandover : Ram → ℕ → Result HandoverRead ImagePlace → Type 0
TellsHandover ram entry (Ok h) = IsHandover ram entry h
TellsHandover ram entry (Err p) = BreakAt ram entry p
