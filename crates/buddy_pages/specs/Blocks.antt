-- A map of free blocks: for each frame 0, or 1 + o where a free block of order o begins.
use Rattle.std.specs.Prelude.{◌≡◌, ℕ, ◌+◌, ◌-◌, ◌%◌, ◌^◌, ◌<◌, ◌≤◌, Bool, ◌==◌, List, map, length, slice_index, count_by}
use Rattle.std.specs.List.{range_with_len, list_any}
use Rattle.std.specs.Int.Bits.{bit_xor}

-- frame p lies in a free block of order o, which begins at the last multiple of 2^o up to p
unfoldable pub is_in_block : List ℕ → ℕ → ℕ → Bool
is_in_block tags p o = slice_index tags (p - p % 2 ^ o) == o + 1

-- frame p lies in a free block, whose order is 0 to 9
unfoldable pub is_covered : List ℕ → ℕ → Bool
is_covered tags p = list_any (is_in_block tags p) (range_with_len 0 10)

-- the set of free frames: those that lie in a free block
unfoldable pub free_frames : List ℕ → List Bool
free_frames tags = map (is_covered tags) (range_with_len 0 (length tags))

-- how many free blocks of order o there are
unfoldable pub block_count : List ℕ → ℕ → ℕ
block_count tags o = count_by (λ t. t == o + 1) tags

-- the numbers of blocks, of each order from 0 to 9, are those of the map, whose frames have numbers of 32 bits
pub record IsCounted (tags : List ℕ) (blocks : List ℕ) : Type 0 where
  pub orders : length blocks ≡ 10
  pub counts : (o : ℕ) → o ≤ 9 → slice_index blocks o ≡ block_count tags o
  pub few : length tags < 2 ^ 32

-- the map is one of free blocks, all merged
pub record AreBlocks (tags : List ℕ) : Type 0 where
  -- the frames have numbers of 32 bits
  pub few : length tags < 2 ^ 32
  -- an order is 0 to 9
  pub small : (p : ℕ) → slice_index tags p ≤ 10
  -- a block of order o begins at a multiple of 2^o
  pub aligned : (p o : ℕ) → slice_index tags p ≡ o + 1 → p % 2 ^ o ≡ 0
  -- and ends within the machine's frames
  pub within : (p o : ℕ) → slice_index tags p ≡ o + 1 → p + 2 ^ o ≤ length tags
  -- no block begins inside of another
  pub apart : (p o q : ℕ) → slice_index tags p ≡ o + 1 → p < q → q < p + 2 ^ o → slice_index tags q ≡ 0
  -- no two buddies of one order below 9 are both free blocks
  pub merged : (p o : ℕ) → slice_index tags p ≡ o + 1 → o < 9 → slice_index tags (bit_xor p (2 ^ o)) ≡ o + 1 → ⊥
  -- frame 0 is in none
  pub first : slice_index tags 0 ≡ 0
