-- The blocks that keep the header's rules end within the bytes.
use Rattle.std.proofs.Common.{◌≡◌, ℕ, ◌≤◌, Bool, true, List, [], ◌∷◌, length, arith}
use Rattle.std.specs.Prelude.{◌&&◌, ◌==◌, ◌%◌, nat_le}
use Rattle.std.proofs.lemmas.Bool.{and_parts, leb-true}
use Rattle.fdt_blob.specs.Blob.{HeaderRules, Block, block_end, first_pair, structure_block, strings_block, header_block, is_placed, total_of, magic_of, version_of, compatible_of, all_blocks_apart}

total_within : (blob : List ℕ) → HeaderRules blob → total_of blob ≤ length blob
total_within blob h =
    leb-true (total_of blob) (length blob) (and_parts (nat_le 40 (length blob) && magic_of blob == 0xd00d_feed && version_of blob == 17 && compatible_of blob == 16 && nat_le 40 (total_of blob)) (nat_le (total_of blob) (length blob)) h.header).1

ends_within : (blob : List ℕ) (n : ℕ) (b : Block) → HeaderRules blob → is_placed (total_of blob) n b ≡ true → block_end b ≤ length blob
ends_within blob n b h placed =
    let inside : block_end b ≤ total_of blob = leb-true (block_end b) (total_of blob) (and_parts (b.at % n == 0) (nat_le (block_end b) (total_of blob)) placed).1 in
    omega (arith, total_within blob h)

abbrev three_placed : List ℕ → Bool
three_placed blob = is_placed (total_of blob) 8 (first_pair blob) && is_placed (total_of blob) 4 (structure_block blob) && is_placed (total_of blob) 1 (strings_block blob)

placed : (blob : List ℕ) → HeaderRules blob → three_placed blob ≡ true
placed blob h = (and_parts (three_placed blob) (all_blocks_apart (header_block ∷ first_pair blob ∷ structure_block blob ∷ strings_block blob ∷ [])) h.blocks).0

pub structure_within : (blob : List ℕ) → HeaderRules blob → block_end (structure_block blob) ≤ length blob
structure_within blob h =
    let p = and_parts (is_placed (total_of blob) 8 (first_pair blob) && is_placed (total_of blob) 4 (structure_block blob)) (is_placed (total_of blob) 1 (strings_block blob)) (placed blob h) in
    ends_within blob 4 (structure_block blob) h (and_parts (is_placed (total_of blob) 8 (first_pair blob)) (is_placed (total_of blob) 4 (structure_block blob)) p.0).1

pub strings_within : (blob : List ℕ) → HeaderRules blob → block_end (strings_block blob) ≤ length blob
strings_within blob h =
    let p = and_parts (is_placed (total_of blob) 8 (first_pair blob) && is_placed (total_of blob) 4 (structure_block blob)) (is_placed (total_of blob) 1 (strings_block blob)) (placed blob h) in
    ends_within blob 1 (strings_block blob) h p.1
