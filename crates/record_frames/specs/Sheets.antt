-- The record frames, from what they say to their bytes. A record stands in a chain of frames; each frame of a chain is a
-- sheet: its number and its items. Counts, first frames and next frames aren't kept beside the items, since these tell them.
use Rattle.std.specs.Prelude.{ℕ, ◌-◌, List, [], ◌∷◌, ◌++◌, length, map, replicate}
use Rattle.std.specs.Int.{w64, to_le_bytes}
use Rattle.std.specs.List.{flat_map}
use Rattle.ho_base.specs.declared.numbers.Kind.{Kind}
use Rattle.ho_base.specs.declared.numbers.Kind.TheVariants.{Memfd, Dev0, Dev1, Dev2, Dev3}
use Rattle.folio_bitmaps.specs.Chunks.{Element}
use Rattle.record_frames.specs.Ram.{Page}

-- a frame of a chain: its number, and the items in it
pub record Sheet (E : Type 0) : Type 0 where
  pub at : ℕ
  pub items : List E

-- the items of all sheets in order; the sheets' numbers
abbrev pub items_of : {E : Type 0} → List (Sheet E) → List E
items_of sheets = flat_map (λ s. s.items) sheets

abbrev pub numbers_of : {E : Type 0} → List (Sheet E) → List ℕ
numbers_of sheets = map (λ s. s.at) sheets

-- the sheets with something else for each item
abbrev pub map_items : {A B : Type 0} → (A → B) → List (Sheet A) → List (Sheet B)
map_items f sheets = map (λ s. record { at = s.at; items = map f s.items }) sheets

-- the number of a chain's first frame: 0 where there is none
abbrev pub first_of : {E : Type 0} → List (Sheet E) → ℕ
first_of [] = 0
first_of (s ∷ sheets) = s.at

-- a number as 8 bytes, the lowest first
abbrev pub number : ℕ → List ℕ
number n = to_le_bytes w64 n

abbrev pub zeros : ℕ → List ℕ
zeros k = replicate k 0

-- the bytes of a sheet: the next frame's number, how many items there are, zeros up to `head`, and the items
abbrev pub sheet_bytes : {E : Type 0} → ℕ → (E → List ℕ) → ℕ → List E → List ℕ
sheet_bytes head bytes next items = number next ++ number (length items) ++ zeros (head - 16) ++ flat_map bytes items

-- the frames of a chain with what they begin with
abbrev pub chain_pages : {E : Type 0} → ℕ → (E → List ℕ) → List (Sheet E) → List Page
chain_pages head bytes [] = []
chain_pages head bytes (s ∷ sheets) =
    record { at = s.at; bytes = sheet_bytes head bytes (first_of sheets) s.items } ∷ chain_pages head bytes sheets

-- what a slot of a session frame says: a name, how many files there are, and the first file frame
pub record SessionSlot : Type 0 where
  pub name : List ℕ
  pub files : ℕ
  pub first : ℕ

-- what a slot of a file frame says
pub record FileSlot : Type 0 where
  pub token : ℕ
  pub kind : Kind
  pub order : ℕ
  pub size : ℕ
  pub position : ℕ
  pub handle : ℕ
  pub first : ℕ
  pub folios : ℕ

-- the number of a kind in a slot
abbrev pub kind_number : Kind → ℕ
kind_number Memfd = 0
kind_number Dev0 = 1
kind_number Dev1 = 2
kind_number Dev2 = 3
kind_number Dev3 = 4

-- a slot of 128 bytes
abbrev pub session_slot_bytes : SessionSlot → List ℕ
session_slot_bytes s = s.name ++ zeros (64 - length s.name) ++ number s.files ++ number s.first ++ zeros 48

-- a slot of 128 bytes
abbrev pub file_slot_bytes : FileSlot → List ℕ
file_slot_bytes f =
    number f.token ++ number (kind_number f.kind) ++ number f.order ++ number f.size ++ number f.position ++ number f.handle
    ++ number f.first ++ number f.folios ++ zeros 64

-- a file: its runs stand in order in its list frames
pub record FileRecord : Type 0 where
  pub token : ℕ
  pub kind : Kind
  pub order : ℕ
  pub size : ℕ
  pub position : ℕ
  pub handle : ℕ
  pub lists : List (Sheet ℕ)

-- a session: its files stand in rising tokens in its file frames
pub record SessionRecord : Type 0 where
  pub name : List ℕ
  pub files : List (Sheet FileRecord)

-- the slot of a file, and of a session: counts and first frames are those of the frames that follow
abbrev pub file_slot : FileRecord → FileSlot
file_slot f = record {
  token = f.token;
  kind = f.kind;
  order = f.order;
  size = f.size;
  position = f.position;
  handle = f.handle;
  first = first_of f.lists;
  folios = length (items_of f.lists);
}

abbrev pub session_slot : SessionRecord → SessionSlot
session_slot s = record { name = s.name; files = length (items_of s.files); first = first_of s.files }

-- the list frames of a file
abbrev pub list_pages : FileRecord → List Page
list_pages f = chain_pages 16 number f.lists

-- the file frames of a session, and the list frames of its files
abbrev pub session_pages : SessionRecord → List Page
session_pages s = chain_pages 128 file_slot_bytes (map_items file_slot s.files) ++ flat_map list_pages (items_of s.files)

-- all record frames in the order in which they are read: the session frames, then session by session
abbrev pub record_pages : List (Sheet SessionRecord) → List Page
record_pages records =
    chain_pages 128 session_slot_bytes (map_items session_slot records) ++ flat_map session_pages (items_of records)

-- the numbers of these frames
abbrev pub list_numbers : FileRecord → List ℕ
list_numbers f = numbers_of f.lists

abbrev pub session_numbers : SessionRecord → List ℕ
session_numbers s = numbers_of s.files ++ flat_map list_numbers (items_of s.files)

abbrev pub record_numbers : List (Sheet SessionRecord) → List ℕ
record_numbers records = numbers_of records ++ flat_map session_numbers (items_of records)

-- an element of a chunk frame
abbrev pub element_bytes : Element → List ℕ
element_bytes e = number e.base ++ number e.order ++ e.bits

-- the chunk frames
abbrev pub chunk_pages : List (Sheet Element) → List Page
chunk_pages chain = chain_pages 32 element_bytes chain
