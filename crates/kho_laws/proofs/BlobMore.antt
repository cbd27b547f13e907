-- A blob spells its tree with any bytes behind it.
use Rattle.std.proofs.Common.{◌≡◌, ℕ, zero, suc, ◌+◌, ◌-◌, ◌*◌, ◌/◌, ◌%◌, ◌≤◌, Bool, true, false, cond, eqb, List, [], ◌∷◌, ◌++◌, length, take, drop, Option, Some, refl, sym, ap, subst, ◌∙◌, arith}
use Rattle.std.specs.Prelude.{◌&&◌, nat_le, nat_eq}
use Rattle.std.specs.Int.{w32, from_be_bytes}
use Rattle.std.specs.List.{list_all}
use Rattle.std.specs.Option.{option_map, option_map_or}
use Rattle.std.proofs.lemmas.Bool.{leb-true, le-leb, and_parts, and_from}
use Rattle.std.proofs.lemmas.List.{length-append, length-drop, take-append-le, drop-append-le}
use Rattle.fdt_blob.specs.Trees.{Tree}
use Rattle.fdt_blob.specs.Blob.{Block, block_end, header_block, structure_block, strings_block, first_pair, bytes_of, apart, all_blocks_apart, is_placed, has_header, has_blocks, reservations_size, reservations_block, is_apart_from_blocks, StructureSpells, Spells, word_at, total_of}
use Rattle.kho_laws.specs.Entry.{SpellsWithMore}

-- the bytes of a part that ends within the blob
part_more : (blob more : List ℕ) (at size : ℕ) → at + size ≤ length blob → take size (drop at (blob ++ more)) ≡ take size (drop at blob)
part_more blob more at size le =
    ap (take size) (drop-append-le at blob more (omega (arith, le)))
    ∙ take-append-le size (drop at blob) more (omega (arith, length-drop at blob, le))

-- ---- the header

-- what it has to be
abbrev is_header : ℕ → ℕ → ℕ → ℕ → ℕ → Bool
is_header long magic version compatible total =
    nat_le 40 long && eqb magic 0xd00d_feed && eqb version 17 && eqb compatible 16 && nat_le 40 total && nat_le total long

-- the rules of the blocks, by the words of the header
abbrev are_blocks : ℕ → ℕ → ℕ → ℕ → ℕ → ℕ → Bool
are_blocks total pairs structure structure_size strings strings_size =
    is_placed total 8 (record { at = pairs; size = 16 }) && is_placed total 4 (record { at = structure; size = structure_size })
    && is_placed total 1 (record { at = strings; size = strings_size })
    && all_blocks_apart (header_block ∷ record { at = pairs; size = 16 } ∷ record { at = structure; size = structure_size } ∷ record { at = strings; size = strings_size } ∷ [])

module _ (blob more : List ℕ) (header : has_header blob ≡ true) (blocks : has_blocks blob ≡ true) where
  -- the parts of the two tests
  within : (40 ≤ length blob) × (total_of blob ≤ length blob)
  within =
      let a = and_parts (nat_le 40 (length blob) && eqb (word_at blob 0) 0xd00d_feed && eqb (word_at blob 20) 17 && eqb (word_at blob 24) 16 && nat_le 40 (total_of blob)) (nat_le (total_of blob) (length blob)) header in
      let b = and_parts (nat_le 40 (length blob) && eqb (word_at blob 0) 0xd00d_feed && eqb (word_at blob 20) 17 && eqb (word_at blob 24) 16) (nat_le 40 (total_of blob)) a.0 in
      let c = and_parts (nat_le 40 (length blob) && eqb (word_at blob 0) 0xd00d_feed && eqb (word_at blob 20) 17) (eqb (word_at blob 24) 16) b.0 in
      let d = and_parts (nat_le 40 (length blob) && eqb (word_at blob 0) 0xd00d_feed) (eqb (word_at blob 20) 17) c.0 in
      let e = and_parts (nat_le 40 (length blob)) (eqb (word_at blob 0) 0xd00d_feed) d.0 in
      (leb-true 40 (length blob) e.0, leb-true (total_of blob) (length blob) a.1)

  placed : (total n : ℕ) (b : Block) → is_placed total n b ≡ true → block_end b ≤ total
  placed total n b h = leb-true (block_end b) total (and_parts (eqb (b.at % n) 0) (nat_le (block_end b) total) h).1

  ends : (block_end (first_pair blob) ≤ total_of blob) × (block_end (structure_block blob) ≤ total_of blob) × (block_end (strings_block blob) ≤ total_of blob)
  ends =
      let a = and_parts (is_placed (total_of blob) 8 (first_pair blob) && is_placed (total_of blob) 4 (structure_block blob) && is_placed (total_of blob) 1 (strings_block blob))
      (all_blocks_apart (header_block ∷ first_pair blob ∷ structure_block blob ∷ strings_block blob ∷ [])) blocks in
      let b = and_parts (is_placed (total_of blob) 8 (first_pair blob) && is_placed (total_of blob) 4 (structure_block blob)) (is_placed (total_of blob) 1 (strings_block blob)) a.0 in
      let c = and_parts (is_placed (total_of blob) 8 (first_pair blob)) (is_placed (total_of blob) 4 (structure_block blob)) b.0 in
      (placed (total_of blob) 8 (first_pair blob) c.0, placed (total_of blob) 4 (structure_block blob) c.1, placed (total_of blob) 1 (strings_block blob) b.1)

  -- a word of the header
  word_more : (at : ℕ) → at ≤ 36 → word_at (blob ++ more) at ≡ word_at blob at
  word_more at le = ap (λ (l : List ℕ). from_be_bytes w32 l) (part_more blob more at 4 (omega (arith, le, within.0)))

  total_more : total_of (blob ++ more) ≡ total_of blob
  total_more = word_more 4 (omega arith)

  structure_more : structure_block (blob ++ more) ≡ structure_block blob
  structure_more = λ j. record { at = word_more 8 (omega arith) j; size = word_more 36 (omega arith) j }

  strings_more : strings_block (blob ++ more) ≡ strings_block blob
  strings_more = λ j. record { at = word_more 12 (omega arith) j; size = word_more 32 (omega arith) j }

  pairs_more : first_pair (blob ++ more) ≡ first_pair blob
  pairs_more = λ j. record { at = word_more 16 (omega arith) j; size = 16 }

  header_longer : (a b magic version compatible total : ℕ) → a ≤ b → is_header a magic version compatible total ≡ true → is_header b magic version compatible total ≡ true
  header_longer a b magic version compatible total le h =
      let p = and_parts (nat_le 40 a && eqb magic 0xd00d_feed && eqb version 17 && eqb compatible 16 && nat_le 40 total) (nat_le total a) h in
      let q = and_parts (nat_le 40 a && eqb magic 0xd00d_feed && eqb version 17 && eqb compatible 16) (nat_le 40 total) p.0 in
      let r = and_parts (nat_le 40 a && eqb magic 0xd00d_feed && eqb version 17) (eqb compatible 16) q.0 in
      let s = and_parts (nat_le 40 a && eqb magic 0xd00d_feed) (eqb version 17) r.0 in
      let t = and_parts (nat_le 40 a) (eqb magic 0xd00d_feed) s.0 in
      let long : 40 ≤ a = leb-true 40 a t.0 in
      let in_it : total ≤ a = leb-true total a p.1 in
      and_from (nat_le 40 b && eqb magic 0xd00d_feed && eqb version 17 && eqb compatible 16 && nat_le 40 total) (nat_le total b)
      (and_from (nat_le 40 b && eqb magic 0xd00d_feed && eqb version 17 && eqb compatible 16) (nat_le 40 total)
      (and_from (nat_le 40 b && eqb magic 0xd00d_feed && eqb version 17) (eqb compatible 16)
      (and_from (nat_le 40 b && eqb magic 0xd00d_feed) (eqb version 17)
      (and_from (nat_le 40 b) (eqb magic 0xd00d_feed) (le-leb 40 b (omega (arith, long, le))) t.1) s.1) r.1) q.1)
      (le-leb total b (omega (arith, in_it, le)))

  header_more : has_header (blob ++ more) ≡ true
  header_more =
      (λ j. is_header (length (blob ++ more)) (word_more 0 (omega arith) j) (word_more 20 (omega arith) j) (word_more 24 (omega arith) j) (total_more j))
      ∙ header_longer (length blob) (length (blob ++ more)) (word_at blob 0) (word_at blob 20) (word_at blob 24) (total_of blob) (omega (arith, length-append blob more)) header

  blocks_more : has_blocks (blob ++ more) ≡ true
  blocks_more =
      (λ j. are_blocks (total_more j) (word_more 16 (omega arith) j) (word_more 8 (omega arith) j) (word_more 36 (omega arith) j) (word_more 12 (omega arith) j) (word_more 32 (omega arith) j))
      ∙ blocks

  -- ---- the reservations

  size_more : (n : ℕ) (bytes : List ℕ) → 16 * n ≤ length bytes → reservations_size n (bytes ++ more) ≡ reservations_size n bytes
  size_more zero bytes le = refl
  size_more (suc n) bytes le =
      let here : take 16 (bytes ++ more) ≡ take 16 bytes = take-append-le 16 bytes more (omega (arith, le)) in
      let rest : drop 16 (bytes ++ more) ≡ drop 16 bytes ++ more = drop-append-le 16 bytes more (omega (arith, le)) in
      let later = size_more n (drop 16 bytes) (omega (arith, le, length-drop 16 bytes)) in
      let tail : reservations_size n (drop 16 (bytes ++ more)) ≡ reservations_size n (drop 16 bytes) = ap (reservations_size n) rest ∙ later in
      λ j. cond (list_all (nat_eq 0) (here j)) (Some 16) (option_map (λ size. size + 16) (tail j))

  reservations_more : reservations_block (blob ++ more) ≡ reservations_block blob
  reservations_more =
      let n = (total_of blob - word_at blob 16) / 16 in
      let tail : drop (word_at blob 16) (blob ++ more) ≡ drop (word_at blob 16) blob ++ more = drop-append-le (word_at blob 16) blob more (omega (arith, ends.0, within.1)) in
      let fits : 16 * n ≤ length (drop (word_at blob 16) blob) = omega (arith, length-drop (word_at blob 16) blob, within.1, ends.0) in
      (λ j. option_map (λ size. record { at = word_more 16 (omega arith) j; size = size })
      (reservations_size ((total_more j - word_more 16 (omega arith) j) / 16) (drop (word_more 16 (omega arith) j) (blob ++ more))))
      ∙ ap (λ (o : Option ℕ). option_map (λ size. record { at = word_at blob 16; size = size }) o)
      (ap (reservations_size n) tail ∙ size_more n (drop (word_at blob 16) blob) fits)

  pairs_end : option_map_or (is_apart_from_blocks blob) (reservations_block blob) false ≡ true → option_map_or (is_apart_from_blocks (blob ++ more)) (reservations_block (blob ++ more)) false ≡ true
  pairs_end h =
      (λ j. option_map_or (λ b. apart b header_block && apart b (structure_more j) && apart b (strings_more j)) (reservations_more j) false) ∙ h

  -- ---- the structure

  strings_bytes : bytes_of (strings_block (blob ++ more)) (blob ++ more) ≡ bytes_of (strings_block blob) blob
  strings_bytes =
      ap (λ (b : Block). bytes_of b (blob ++ more)) strings_more
      ∙ part_more blob more (strings_block blob).at (strings_block blob).size (omega (arith, ends.2, within.1))

  structure_bytes : bytes_of (structure_block (blob ++ more)) (blob ++ more) ≡ bytes_of (structure_block blob) blob
  structure_bytes =
      ap (λ (b : Block). bytes_of b (blob ++ more)) structure_more
      ∙ part_more blob more (structure_block blob).at (structure_block blob).size (omega (arith, ends.1, within.1))

  pub all_more : (t : Tree) → Spells blob t → Spells (blob ++ more) t
  all_more t s = record {
    header = record { header = header_more; blocks = blocks_more };
    reservations = record { ended = pairs_end s.reservations.ended };
    structure = subst (λ (b : List ℕ). StructureSpells (bytes_of (strings_block (blob ++ more)) (blob ++ more)) b t) (sym structure_bytes)
        (subst (λ (b : List ℕ). StructureSpells b (bytes_of (structure_block blob) blob) t) (sym strings_bytes) s.structure);
  }

pub spells_more : SpellsWithMore
spells_more blob more t s = all_more blob more s.header.header s.header.blocks t s
