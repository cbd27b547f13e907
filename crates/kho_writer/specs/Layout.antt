-- How the blob of the handover tree is laid out: its parts in their order, with the place of each name in the strings block.
use Rattle.std.specs.Prelude.{◌≡◌, ℕ, ◌+◌, ◌*◌, ◌≤◌, List, [], ◌∷◌, ◌++◌, length, replicate, Option, Some, None}
use Rattle.std.specs.List.{flat_map}
use Rattle.ho_base.specs.declared.limits.TheConstants.{PAGE_BYTES}
use Rattle.ho_base.specs.declared.shape.Area.{Area}
use Rattle.phys_frames.specs.Memory.{FolioValue, with_bytes, written}
use Rattle.fdt_blob.specs.Tokens.{begin_node, property, token_bytes, word}
use Rattle.fdt_blob.specs.Spelling.{header_of, strings_of}
use Rattle.record_frames.specs.Rules.{version_1}
use Rattle.record_frames.specs.Handover.{COMPATIBLE, MEMORY_MAP, SCRATCH, LUO, UPDATE_NUMBER, SESSION_HEADER, BOUND_NAMES}
use Rattle.kho_laws.specs.Tree.{high_first, area_bytes}

-- a folio with bytes in place of as many from a place on
unfoldable pub patched : FolioValue → ℕ → List ℕ → FolioValue
patched folio at bytes = with_bytes folio (written folio.bytes at bytes)

-- Bytes were put into a folio of one frame from a place on, and behind them is this place.
pub record Puts (before : FolioValue) (at : ℕ) (bytes : List ℕ) (after : FolioValue) (end : ℕ) : Type 0 where
  pub is : after ≡ patched before at bytes
  pub size : length after.bytes ≡ PAGE_BYTES
  pub end_is : end ≡ at + length bytes
  pub room : end ≤ PAGE_BYTES

-- a property whose name stands at a place of the strings block
abbrev pub valued : ℕ → List ℕ → List ℕ
valued place value = token_bytes (property [] place value)

-- the names of the properties that every tree has, in order of first use
abbrev pub FIXED_NAMES : List (List ℕ)
FIXED_NAMES = COMPATIBLE ∷ MEMORY_MAP ∷ SCRATCH ∷ UPDATE_NUMBER ∷ SESSION_HEADER ∷ []

-- the root up to its child: its begin, the version, the first chunk frame, the scratch areas
abbrev pub root_part : List Area → ℕ → List ℕ
root_part areas chunk =
    token_bytes (begin_node [])
    ++ (valued 0 version_1.root ++ (valued 11 (high_first chunk) ++ valued 32 (flat_map area_bytes areas)))

-- the child up to the bound records: its begin, the version, the update number, the session frame
abbrev pub luo_part : ℕ → ℕ → List ℕ
luo_part number header =
    token_bytes (begin_node LUO)
    ++ (valued 0 version_1.luo ++ (valued 40 (high_first number) ++ valued 58 (high_first header)))

-- the property of a bound record, if there is one, where so many stand before it
abbrev pub bound_part : ℕ → Option ℕ → List ℕ
bound_part before None = []
bound_part before (Some p) = valued (73 + 11 * before) (high_first p)

-- one, if there is a bound record
abbrev pub one : Option ℕ → ℕ
one None = 0
one (Some p) = 1

-- how many bound records there are
abbrev pub ones : List (Option ℕ) → ℕ
ones [] = 0
ones (b ∷ bounds) = one b + ones bounds

-- the properties of bound records in order, where so many stand before them
abbrev pub bounds_part : ℕ → List (Option ℕ) → List ℕ
bounds_part before [] = []
bounds_part before (b ∷ bounds) = bound_part before b ++ bounds_part (before + one b) bounds

-- the ends of the child and of the root, and of the structure block
abbrev pub ends_part : List ℕ
ends_part = word 2 ++ (word 2 ++ word 9)

-- the structure block
abbrev pub structure_part : List Area → ℕ → ℕ → ℕ → List (Option ℕ) → List ℕ
structure_part areas chunk number header bounds =
    root_part areas chunk ++ (luo_part number header ++ (bounds_part 0 bounds ++ ends_part))

-- a text, if there is a bound record
abbrev pub if_given : List ℕ → Option ℕ → List ℕ
if_given text None = []
if_given text (Some p) = text

-- the names of the bound records that there are, each with its zero
abbrev pub names_part : List (List ℕ) → List (Option ℕ) → List ℕ
names_part [] bounds = []
names_part (name ∷ names) [] = []
names_part (name ∷ names) (b ∷ bounds) = if_given (name ++ 0 ∷ []) b ++ names_part names bounds

-- the strings block
abbrev pub strings_part : List (Option ℕ) → List ℕ
strings_part bounds = strings_of FIXED_NAMES ++ names_part BOUND_NAMES bounds

-- the header and the reservation block's ending pair
abbrev pub front_part : ℕ → ℕ → List ℕ
front_part structure strings = header_of structure strings ++ replicate 16 0
