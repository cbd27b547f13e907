-- What the definitions of records promise together.
use Rattle.std.specs.Prelude.{◌≡◌, ℕ, ◌^◌, ◌≤◌, List, [], length, IsTrue, Ok, ◌⊎◌, ◌<◌, get_or}
use Rattle.ho_base.specs.declared.limits.TheConstants.{MAX_FRAMES, PAGE_BYTES}
use Rattle.fdt_blob.specs.declared.tree.FdtPlace.{FdtPlace}
use Rattle.fdt_blob.specs.Trees.{Tree}
use Rattle.fdt_blob.specs.Blob.{Spells, BreaksAt}
use Rattle.record_frames.specs.declared.place.ImagePlace.{ImagePlace}
use Rattle.ho_world.specs.Frozen.{Frozen}
use Rattle.record_frames.specs.Ram.{Ram, is_frame}
use Rattle.folio_bitmaps.specs.Chunks.{Element}
use Rattle.record_frames.specs.Sheets.{Sheet}
use Rattle.record_frames.specs.Kept.{Kept}
use Rattle.record_frames.specs.Carries.{Carries, Keep, SpellChain}
use Rattle.record_frames.specs.Rules.{version_1, is_session_sheet}
use Rattle.record_frames.specs.Reading.{kept_at, chain_at, chunks_at, session_layout, BreakAt}
use Rattle.record_frames.specs.Fronts.{session_front_at, one_sheet}

-- what fdt_blob promises: bytes spell one tree at most, and bytes that break a rule spell none and break one first
pub record OneTree : Type 0 where
  pub one : (blob : List ℕ) (s t : Tree) → Spells blob s → Spells blob t → s ≡ t
  pub none : (blob : List ℕ) (place : FdtPlace) (t : Tree) → BreaksAt blob place → Spells blob t → ⊥
  pub first : (blob : List ℕ) (p q : FdtPlace) → BreaksAt blob p → BreaksAt blob q → p ≡ q

-- frames carry one state at most
abbrev pub OneState : Type 0
OneState = (ram : Ram) (entry : ℕ) (f g : Frozen) → ram.count ≤ MAX_FRAMES → Carries ram entry f → Carries ram entry g → f ≡ g

-- frames that break a rule carry nothing
abbrev pub NoState : Type 0
NoState = (ram : Ram) (entry : ℕ) (f : Frozen) (p : ImagePlace) → ram.count ≤ MAX_FRAMES → Carries ram entry f → BreakAt ram entry p → ⊥

-- they break one rule first
abbrev pub OnePlace : Type 0
OnePlace = (ram : Ram) (entry : ℕ) (p q : ImagePlace) → BreakAt ram entry p → BreakAt ram entry q → p ≡ q

-- what is kept is what reading gives
abbrev pub KeptIsRead : Type 0
KeptIsRead = (ram : Ram) (entry : ℕ) (k : Kept) → ram.count ≤ MAX_FRAMES → (keep : Keep ram entry k) → kept_at ram entry keep.tree ≡ Ok k

-- each frame holds a page of bytes
pub record Holds (ram : Ram) : Type 0 where
  pub bytes : (p : ℕ) → p < ram.count → (i : ℕ) → get_or (ram.page p) i 0 < 256
  pub size : (p : ℕ) → p < ram.count → length (ram.page p) ≡ PAGE_BYTES

-- what reading gives is kept, where the frames hold bytes
abbrev pub ReadIsKept : Type 0
ReadIsKept =
    (ram : Ram) (entry : ℕ) (t : Tree) (k : Kept) → Holds ram → IsTrue (is_frame ram.count entry) → Spells (ram.page entry) t → kept_at ram entry t ≡ Ok k
    → Keep ram entry k

-- bytes spell a tree, or their rules break at a place; one of the two is what opening a blob shows
abbrev pub TreeOrPlace : List ℕ → Type 0
TreeOrPlace blob = ((t : Tree) × Spells blob t) ⊎ ((p : FdtPlace) × BreaksAt blob p)

-- Frames whose entry frame spells a tree or breaks a rule of it carry a state or break a rule.
abbrev pub StateOrPlace : Type 0
StateOrPlace =
    (ram : Ram) (entry : ℕ) → Holds ram → TreeOrPlace (ram.page entry)
    → ((f : Frozen) × Carries ram entry f) ⊎ ((p : ImagePlace) × BreakAt ram entry p)

-- In version 1 the chain of session frames is its first frame, or this frame breaks a rule.
abbrev pub OneSessionFrame : Type 0
OneSessionFrame =
    (ram : Ram) (at : ℕ) → chain_at ram session_layout (is_session_sheet version_1) [] at ≡ one_sheet at (session_front_at ram at)

-- a chain that frames spell is what reading it gives
abbrev pub ChainIsRead : Type 0
ChainIsRead = (ram : Ram) (first : ℕ) (chain : List (Sheet Element)) → ram.count ≤ 2 ^ 64 → SpellChain ram first chain → chunks_at ram first ≡ Ok chain

-- a chain that reading gives is one that the frames spell, where they hold bytes
abbrev pub ReadIsChain : Type 0
ReadIsChain = (ram : Ram) (first : ℕ) (chain : List (Sheet Element)) → Holds ram → chunks_at ram first ≡ Ok chain → SpellChain ram first chain
