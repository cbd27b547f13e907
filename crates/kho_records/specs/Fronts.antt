-- Chunk frames as the program reads them: of the frames before one, only where the last element stands counts.
use Rattle.std.specs.Prelude.{ℕ, not, ◌&&◌, ◌||◌, ◌==◌, nat_lt, nat_le, nat_eq, Bool, true, if◌then◌else◌, List, [], ◌∷◌, take, drop, Option, Some, None}
use Rattle.std.specs.List.{list_any}
use Rattle.ho_base.specs.Bytes.{u64_at}
use Rattle.folio_bitmaps.specs.Chunks.{Element}
use Rattle.record_frames.specs.Ram.{Ram, is_frame}
use Rattle.record_frames.specs.Rules.{ELEMENTS, is_element}
use Rattle.record_frames.specs.Reading.{Front, are_zero, items_at, element_at}
use Rattle.record_frames.specs.Slots.{kept_if}
use Rattle.kho_records.specs.Chunks.{elements_view}
use Rattle.kho_records.specs.declared.chain.order.ElementPlace.{ElementPlace}
use Rattle.kho_records.specs.declared.chain.front.ChunkFront.{ChunkFront}

-- where an element stands
abbrev pub place_of : Element → ElementPlace
place_of e = record { order = e.order; base = e.base }

-- an element stands behind a place, if there is one
abbrev pub stands_behind : Option ElementPlace → Element → Bool
stands_behind None e = true
stands_behind (Some p) e = nat_lt p.order e.order || (p.order == e.order && nat_lt p.base e.base)

-- elements rise behind a place
abbrev pub rise_behind : Option ElementPlace → List Element → Bool
rise_behind last [] = true
rise_behind last (e ∷ es) = stands_behind last e && rise_behind (Some (place_of e)) es

-- where the last of some elements stands; a place before them where there are none
abbrev pub last_place : Option ElementPlace → List Element → Option ElementPlace
last_place last [] = last
last_place last (e ∷ es) = last_place (Some (place_of e)) es

-- 528 bytes as an element that keeps its rules by itself on n frames
unfoldable pub element_kept : ℕ → List ℕ → Option Element
element_kept n bytes = kept_if (is_element n) (element_at bytes)

-- the head of a chunk frame: 1 to 7 elements, and zeros up to the first
abbrev pub has_head : List ℕ → Bool
has_head page = nat_lt 0 (u64_at page 8) && nat_le (u64_at page 8) ELEMENTS && are_zero (take 16 (drop 16 page))

-- the front of a frame with this next number and these elements
abbrev pub front_with : ℕ → Option (List Element) → Option (Front Element)
front_with next None = None
front_with next (Some elements) = Some (record { next = next; items = elements })

-- a chunk frame behind frames that were read, whose last element stands at this place
unfoldable pub chunk_front_at : Ram → Option ElementPlace → List ℕ → ℕ → Option (Front Element)
chunk_front_at ram last seen at =
    if is_frame ram.count at && not (list_any (nat_eq at) seen) && has_head (ram.page at) then
    front_with (u64_at (ram.page at) 0)
    (kept_if (rise_behind last) (items_at 528 (element_kept ram.count) (u64_at (ram.page at) 8) (drop 32 (ram.page at))))
    else None

abbrev pub front_view : ChunkFront → Front Element
front_view f = record { next = f.next; items = elements_view f.items.items }
