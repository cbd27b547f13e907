-- Which bytes are a blob, in three parts, and the tree that they carry (Devicetree Specification, chapter 5).
use Rattle.std.specs.Prelude.{◌≡◌, ℕ, zero, suc, ◌+◌, ◌-◌, ◌/◌, ◌%◌, Bool, true, false, ◌&&◌, ◌||◌, ◌==◌, nat_le, nat_eq, List, [], ◌∷◌, ◌++◌, length, take, drop, IsTrue, Option, Some, None, if◌then◌else◌}
use Rattle.std.specs.Option.{option_map, option_map_or}
use Rattle.std.specs.Int.{w32, from_be_bytes}
use Rattle.std.specs.List.{list_all, flat_map, AllByRecursion}
use Rattle.fdt_blob.specs.declared.tree.FdtPlace.{FdtPlace}
use Rattle.fdt_blob.specs.declared.tree.FdtPlace.TheVariants.{Header, Reservations, Structure}
use Rattle.fdt_blob.specs.Trees.{Tree, is_valid}
use Rattle.fdt_blob.specs.Tokens.{Token, IsToken, token_bytes, end_bytes, items_of, tree_items}

-- the number that the four bytes from a place on spell, the highest byte first
abbrev pub word_at : List ℕ → ℕ → ℕ
word_at bytes at = from_be_bytes w32 (take 4 (drop at bytes))

-- the fields of the header (5.2)
abbrev pub magic_of : List ℕ → ℕ
magic_of blob = word_at blob 0

abbrev pub total_of : List ℕ → ℕ
total_of blob = word_at blob 4

abbrev pub version_of : List ℕ → ℕ
version_of blob = word_at blob 20

abbrev pub compatible_of : List ℕ → ℕ
compatible_of blob = word_at blob 24

-- A part of the blob: where it begins, and how many bytes it has.
pub record Block : Type 0 where
  pub at : ℕ
  pub size : ℕ

abbrev pub block_end : Block → ℕ
block_end b = b.at + b.size

abbrev pub header_block : Block
header_block = record { at = 0; size = 40 }

abbrev pub structure_block : List ℕ → Block
structure_block blob = record { at = word_at blob 8; size = word_at blob 36 }

abbrev pub strings_block : List ℕ → Block
strings_block blob = record { at = word_at blob 12; size = word_at blob 32 }

-- the reservation block's first pair, which every such block has
abbrev pub first_pair : List ℕ → Block
first_pair blob = record { at = word_at blob 16; size = 16 }

-- the bytes of a block
abbrev pub bytes_of : Block → List ℕ → List ℕ
bytes_of b blob = take b.size (drop b.at blob)

-- two blocks share no byte; an empty one shares none with any
abbrev pub apart : Block → Block → Bool
apart a b = a.size == 0 || b.size == 0 || nat_le (block_end a) b.at || nat_le (block_end b) a.at

-- no two blocks share a byte
abbrev pub all_blocks_apart : List Block → Bool
all_blocks_apart [] = true
all_blocks_apart (b ∷ blocks) = list_all (apart b) blocks && all_blocks_apart blocks

-- a block begins at a multiple of n and ends within the total
abbrev pub is_placed : ℕ → ℕ → Block → Bool
is_placed total n b = b.at % n == 0 && nat_le (block_end b) total

-- The rules of the header: 40 bytes are there; the magic number is d00dfeed, the version 17, and the last compatible
-- version 16; the total is at least 40 and within the bytes.
abbrev pub has_header : List ℕ → Bool
has_header blob =
    nat_le 40 (length blob) && magic_of blob == 0xd00d_feed && version_of blob == 17 && compatible_of blob == 16
    && nat_le 40 (total_of blob) && nat_le (total_of blob) (length blob)

-- The rules of the blocks: the first pair of the reservation block is aligned to 8 and the structure block to 4; each
-- block is within the total; and none overlaps another or the header.
abbrev pub has_blocks : List ℕ → Bool
has_blocks blob =
    is_placed (total_of blob) 8 (first_pair blob) && is_placed (total_of blob) 4 (structure_block blob)
    && is_placed (total_of blob) 1 (strings_block blob)
    && all_blocks_apart (header_block ∷ first_pair blob ∷ structure_block blob ∷ strings_block blob ∷ [])

-- the first part: header and blocks keep their rules
pub record HeaderRules (blob : List ℕ) : Type 0 where
  pub header : IsTrue (has_header blob)
  pub blocks : IsTrue (has_blocks blob)

-- the first 16 bytes are the pair (0, 0)
abbrev pub is_ending_pair : List ℕ → Bool
is_ending_pair bytes = list_all (nat_eq 0) (take 16 bytes)

-- The bytes of a reservation block with its ending pair, which is one of the first n pairs; none where it isn't (5.3).
abbrev pub reservations_size : ℕ → List ℕ → Option ℕ
reservations_size zero bytes = None
reservations_size (suc n) bytes =
    if is_ending_pair bytes then Some 16 else option_map (λ size. size + 16) (reservations_size n (drop 16 bytes))

-- the whole reservation block, if its ending pair stands within the total
abbrev pub reservations_block : List ℕ → Option Block
reservations_block blob =
    option_map (λ size. record { at = (first_pair blob).at; size = size })
    (reservations_size ((total_of blob - (first_pair blob).at) / 16) (drop (first_pair blob).at blob))

-- the whole reservation block shares no byte with another block
abbrev pub is_apart_from_blocks : List ℕ → Block → Bool
is_apart_from_blocks blob b = apart b header_block && apart b (structure_block blob) && apart b (strings_block blob)

-- the second part: the reservation block ends within the total, and the whole of it overlaps no other block
pub record ReservationRules (blob : List ℕ) : Type 0 where
  pub ended : IsTrue (option_map_or (is_apart_from_blocks blob) (reservations_block blob) false)

-- The bytes of a structure block spell a tree: they are those of tokens and of END behind them, with nothing behind
-- it; the tokens, without NOPs and with the names that the strings block has, are the tree's; and the tree is valid.
pub record StructureSpells (strings structure : List ℕ) (t : Tree) : Type 0 where
  pub tokens : List Token
  pub each : AllByRecursion (IsToken strings) tokens
  pub bytes : structure ≡ flat_map token_bytes tokens ++ end_bytes
  pub items : items_of tokens ≡ tree_items t
  pub valid : IsTrue (is_valid t)

-- the third part: the structure block spells this tree
abbrev pub StructureCarries : List ℕ → Tree → Type 0
StructureCarries blob t = StructureSpells (bytes_of (strings_block blob) blob) (bytes_of (structure_block blob) blob) t

-- The bytes spell the tree: all three parts hold.
pub record Spells (blob : List ℕ) (t : Tree) : Type 0 where
  pub header : HeaderRules blob
  pub reservations : ReservationRules blob
  pub structure : StructureCarries blob t

-- The first part whose rules break: then the bytes spell no tree.
abbrev pub BreaksAt : List ℕ → FdtPlace → Type 0
BreaksAt blob Header = ¬ (HeaderRules blob)
BreaksAt blob Reservations = HeaderRules blob × (¬ (ReservationRules blob))
BreaksAt blob Structure = HeaderRules blob × ReservationRules blob × ((t : Tree) → ¬ (StructureCarries blob t))

-- the first part whose rules break is one of the first two
abbrev pub BreaksEarly : List ℕ → FdtPlace → Type 0
BreaksEarly blob Header = BreaksAt blob Header
BreaksEarly blob Reservations = BreaksAt blob Reservations
BreaksEarly blob Structure = ⊥
