-- What stands at the indexes of a file: a folio, or nothing.
use Rattle.std.specs.Prelude.{◌≡◌, ℕ, zero, suc, ◌-◌, Bool, not, is_some, slice_index_or, slice_set, List, [], ◌∷◌, ◌++◌, filter, length, take, replicate, flat_map}
use Rattle.std.specs.Prelude.{Option, None, Some}
use Rattle.std.specs.Ordering.{nat_cmp}
use Rattle.std.specs.FinMap as finmap
use Rattle.ho_base.specs.declared.numbers.Order.{Order}
use Rattle.phys_frames.specs.Homes.{HomeId}
use Rattle.phys_frames.specs.Memory.{FolioValue, Memory, RunOut, with_bytes, with_folio}

-- the n indexes from i on
unfoldable pub places : ℕ → ℕ → List ℕ
places i zero = []
places i (suc n) = i ∷ places (suc i) n

-- what stands at an index: nothing past the last
abbrev pub slot_at : List (Option FolioValue) → ℕ → Option FolioValue
slot_at slots i = slice_index_or slots i None

-- there is no folio at an index
abbrev pub is_hole : List (Option FolioValue) → ℕ → Bool
is_hole slots i = not (is_some (slot_at slots i))

abbrev pub holes_in : List (Option FolioValue) → List ℕ → List ℕ
holes_in slots indexes = filter (λ i. is_hole slots i) indexes

-- the bytes of an index: those of its folio, and zeros where there is none
abbrev pub slot_bytes : ℕ → Option FolioValue → List ℕ
slot_bytes piece None = replicate piece 0
slot_bytes piece (Some folio) = folio.bytes

-- the bytes of all indexes, one after the other
unfoldable pub all_bytes : ℕ → List (Option FolioValue) → List ℕ
all_bytes piece slots = flat_map (slot_bytes piece) slots

-- each index from i on that has a folio, with the folio's first frame
unfoldable pub entries_from : ℕ → List (Option FolioValue) → List (ℕ × ℕ)
entries_from i [] = []
entries_from i (None ∷ slots) = entries_from (suc i) slots
entries_from i (Some folio ∷ slots) = (i, folio.first.0) ∷ entries_from (suc i) slots

-- the first frame of each folio, by its index
unfoldable pub runs_in : List (Option FolioValue) → finmap.FinMap nat_cmp ℕ
runs_in slots = finmap.from_sorted (entries_from 0 slots)

-- the folios in rising index
unfoldable pub folios_in : List (Option FolioValue) → List FolioValue
folios_in [] = []
folios_in (None ∷ slots) = folios_in slots
folios_in (Some folio ∷ slots) = folio ∷ folios_in slots

-- a folio of this home and order with as many bytes as one index covers
pub record IsPiece (home : HomeId) (order : Order) (piece : ℕ) (folio : FolioValue) : Type 0 where
  pub of_home : folio.home ≡ home
  pub of_order : folio.order ≡ order
  pub long : length folio.bytes ≡ piece

abbrev pub IsSlot : HomeId → Order → ℕ → Option FolioValue → Type 0
IsSlot home order piece None = Unit {0}
IsSlot home order piece (Some folio) = IsPiece home order piece folio

-- each index has nothing, or such a folio
pub record AreSlots (home : HomeId) (order : Order) (piece : ℕ) (slots : List (Option FolioValue)) : Type 0 where
  pub at : (i : ℕ) → IsSlot home order piece (slot_at slots i)

-- a folio that can fill a hole: such a folio, with zeros
pub record IsBlank (home : HomeId) (order : Order) (piece : ℕ) (folio : FolioValue) : Type 0 where
  pub fits : IsPiece home order piece folio
  pub zeros : folio.bytes ≡ replicate piece 0

abbrev pub AreBlank : HomeId → Order → ℕ → List FolioValue → Type 0
AreBlank home order piece [] = Unit {0}
AreBlank home order piece (folio ∷ folios) = IsBlank home order piece folio × AreBlank home order piece folios

-- the slots with the first of some folios put at an index
abbrev pub after_fill : List (Option FolioValue) → ℕ → List FolioValue → List (Option FolioValue)
after_fill slots at [] = slots
after_fill slots at (folio ∷ folios) = slice_set slots at (Some folio)

-- the folio of an index, where there is one, as a list
abbrev pub slot_list : Option FolioValue → List FolioValue
slot_list None = []
slot_list (Some folio) = folio ∷ []

-- a folio with zeros from a byte on
abbrev pub zeros_from : FolioValue → ℕ → FolioValue
zeros_from f at = with_bytes f (take at f.bytes ++ replicate (length f.bytes - at) 0)

-- frames to which folios came home, one after the other
unfoldable pub with_folios : Memory → List FolioValue → Memory
with_folios m [] = m
with_folios m (folio ∷ folios) = with_folios (with_folio m folio) folios

-- each frame of each folio is out when the folio's turn comes to come home: so no two share a frame
abbrev pub AreOut : Memory → List FolioValue → Type 0
AreOut m [] = Unit {0}
AreOut m (folio ∷ folios) = RunOut m folio.first folio.order × AreOut (with_folio m folio) folios

abbrev pub given_home : Memory → Option FolioValue → Memory
given_home m None = m
given_home m (Some folio) = with_folio m folio
