-- The one spelling of a valid tree spells it: header and blocks keep their rules.
use Rattle.std.proofs.Common.{◌≡◌, ℕ, zero, suc, ◌+◌, ◌-◌, ◌/◌, ◌%◌, ◌^◌, ◌<◌, ◌≤◌, Bool, true, false, Some, Result, Ok, Err, IfOk, Vec, Global, List, [], ◌∷◌, ◌++◌, length, take, drop, replicate, refl, sym, ap, subst, ◌∙◌, arith, length-append, append_assoc}
use Rattle.std.specs.Prelude.{◌&&◌, ◌||◌, nat_eq, nat_le}
use Rattle.std.specs.Option.{option_map, option_map_or}
use Rattle.std.specs.List.{list_all}
use Rattle.std.proofs.lemmas.Bool.{and_from, le-leb, eq-eqb}
use Rattle.std.proofs.lemmas.List.{take_at, drop_at, drop-drop, take_all}
use Rattle.std.proofs.lemmas.Nat.{from_be_bytes-to_be_bytes_4}
use Rattle.std.proofs.Math.Nat.{mod-one}
use Rattle.fdt_blob.specs.Trees.{Tree, is_valid}
use Rattle.fdt_blob.specs.Blob.{Block, block_end, header_block, structure_block, strings_block, bytes_of, apart, all_blocks_apart, is_placed, has_header, has_blocks, is_ending_pair, reservations_size, reservations_block, is_apart_from_blocks, ReservationRules, StructureSpells, Spells, word_at, total_of}
use Rattle.fdt_blob.specs.Spelling.{header_of, assembled, spelling, structure_of, strings_of, used_names}
use Rattle.fdt_blob.specs.Writing.{Makes, blob_of}
use Rattle.fdt_blob.specs.declared.writer.WriteError.{WriteError}
use Rattle.fdt_blob.proofs.SpelledTokens.{structure_spells}

-- a blob with its parts from the right
abbrev whole : ℕ → ℕ → List ℕ → List ℕ
whole s u rest = header_of s u ++ (replicate 16 0 ++ rest)

total_is : (s u : ℕ) (rest : List ℕ) → 56 + s + u < 2 ^ 32 → total_of (whole s u rest) ≡ 56 + s + u
total_is s u rest h = from_be_bytes-to_be_bytes_4 (56 + s + u) h

structure_size_is : (s u : ℕ) (rest : List ℕ) → s < 2 ^ 32 → word_at (whole s u rest) 36 ≡ s
structure_size_is s u rest h = from_be_bytes-to_be_bytes_4 s h

strings_at_is : (s u : ℕ) (rest : List ℕ) → 56 + s < 2 ^ 32 → word_at (whole s u rest) 12 ≡ 56 + s
strings_at_is s u rest h = from_be_bytes-to_be_bytes_4 (56 + s) h

strings_size_is : (s u : ℕ) (rest : List ℕ) → u < 2 ^ 32 → word_at (whole s u rest) 32 ≡ u
strings_size_is s u rest h = from_be_bytes-to_be_bytes_4 u h

abbrev block : ℕ → ℕ → Block
block at size = record { at = at; size = size }

structure_is : (s u : ℕ) (rest : List ℕ) → s < 2 ^ 32 → structure_block (whole s u rest) ≡ block 56 s
structure_is s u rest h = ap (block 56) (structure_size_is s u rest h)

strings_are : (s u : ℕ) (rest : List ℕ) → 56 + s + u < 2 ^ 32 → strings_block (whole s u rest) ≡ block (56 + s) u
strings_are s u rest h =
    ap (λ at. block at (word_at (whole s u rest) 32)) (strings_at_is s u rest (omega arith)) ∙ ap (block (56 + s)) (strings_size_is s u rest (omega arith))

-- ---- the header

header_kept : (s u : ℕ) (rest : List ℕ) → 56 + s + u < 2 ^ 32 → length rest ≡ s + u → has_header (whole s u rest) ≡ true
header_kept s u rest h len =
    let total = total_is s u rest h in
    let bytes = whole s u rest in
    let enough : length bytes ≡ 56 + s + u = omega (arith, length-append (header_of s u) (replicate 16 0 ++ rest), length-append (replicate 16 0) rest) in
    and_from _ (nat_le (total_of bytes) (length bytes))
    (and_from _ (nat_le 40 (total_of bytes)) (ap (λ n. nat_le 40 n && true && true && true) enough ∙ ap (λ b. b && true && true && true) (le-leb 40 (56 + s + u) (omega arith)))
    (ap (nat_le 40) total ∙ le-leb 40 (56 + s + u) (omega arith)))
    (le-leb (total_of bytes) (length bytes) (omega arith))

-- ---- the blocks

third : (p q r w : Bool) → r ≡ true → (p || q || r || w) ≡ true
third true q r w h = refl
third false true r w h = refl
third false false r w h = ap (λ b. b || w) h

before : (a b : Block) → block_end a ≤ b.at → apart a b ≡ true
before a b h = third (nat_eq a.size 0) (nat_eq b.size 0) (nat_le (block_end a) b.at) (nat_le (block_end b) a.at) (le-leb (block_end a) b.at h)

abbrev all_placed : ℕ → Block → Block → Block → Bool
all_placed total pair structure strings =
    is_placed total 8 pair && is_placed total 4 structure && is_placed total 1 strings && all_blocks_apart (header_block ∷ pair ∷ structure ∷ strings ∷ [])

placed : (s u : ℕ) → all_placed (56 + s + u) (block 40 16) (block 56 s) (block (56 + s) u) ≡ true
placed s u =
    let total = 56 + s + u in
    let pair = block 40 16 in
    let structure = block 56 s in
    let strings = block (56 + s) u in
    and_from (is_placed total 8 pair && is_placed total 4 structure && is_placed total 1 strings) (all_blocks_apart (header_block ∷ pair ∷ structure ∷ strings ∷ []))
    (and_from (is_placed total 8 pair && is_placed total 4 structure) (is_placed total 1 strings)
    (and_from (is_placed total 8 pair) (is_placed total 4 structure) (le-leb 56 total (omega arith)) (le-leb (56 + s) total (omega arith)))
    (and_from (nat_eq ((56 + s) % 1) 0) (nat_le (56 + s + u) total) (eq-eqb _ _ (mod-one (56 + s))) (le-leb (56 + s + u) total (omega arith))))
    (and_from (list_all (apart header_block) (pair ∷ structure ∷ strings ∷ [])) (all_blocks_apart (pair ∷ structure ∷ strings ∷ []))
    (and_from (apart header_block pair) (list_all (apart header_block) (structure ∷ strings ∷ [])) refl
    (and_from (apart header_block structure) (list_all (apart header_block) (strings ∷ [])) (before header_block structure (omega arith))
    (and_from (apart header_block strings) true (before header_block strings (omega arith)) refl)))
    (and_from (list_all (apart pair) (structure ∷ strings ∷ [])) (all_blocks_apart (structure ∷ strings ∷ []))
    (and_from (apart pair structure) (list_all (apart pair) (strings ∷ [])) (before pair structure (omega arith))
    (and_from (apart pair strings) true (before pair strings (omega arith)) refl))
    (and_from (list_all (apart structure) (strings ∷ [])) (all_blocks_apart (strings ∷ []))
    (and_from (apart structure strings) true (before structure strings (omega arith)) refl) refl)))

blocks_kept : (s u : ℕ) (rest : List ℕ) → 56 + s + u < 2 ^ 32 → has_blocks (whole s u rest) ≡ true
blocks_kept s u rest h =
    let bytes = whole s u rest in
    ap (λ n. all_placed n (block 40 16) (structure_block bytes) (strings_block bytes)) (total_is s u rest h)
    ∙ ap (λ b. all_placed (56 + s + u) (block 40 16) b (strings_block bytes)) (structure_is s u rest (omega arith))
    ∙ ap (λ b. all_placed (56 + s + u) (block 40 16) (block 56 s) b) (strings_are s u rest h)
    ∙ placed s u

-- ---- the reservation block

one_pair : (n : ℕ) (bytes : List ℕ) → 1 ≤ n → is_ending_pair bytes ≡ true → reservations_size n bytes ≡ Some 16
one_pair zero bytes h e = absurd (omega arith)
one_pair (suc n) bytes h e = rw e refl

pairs_fit : (total : ℕ) → 56 ≤ total → 1 ≤ (total - 40) / 16
pairs_fit total h = omega arith

reservations_are : (s u : ℕ) (rest : List ℕ) → 56 + s + u < 2 ^ 32 → reservations_block (whole s u rest) ≡ Some (block 40 16)
reservations_are s u rest h =
    ap (option_map (block 40))
    (one_pair ((total_of (whole s u rest) - 40) / 16) (drop 40 (whole s u rest))
    (pairs_fit (total_of (whole s u rest)) (omega (arith, total_is s u rest h))) refl)

reservations_kept : (s u : ℕ) (rest : List ℕ) → 56 + s + u < 2 ^ 32 → ReservationRules (whole s u rest)
reservations_kept s u rest h =
    let bytes = whole s u rest in
    let pair = block 40 16 in
    let structure : apart pair (structure_block bytes) ≡ true = ap (apart pair) (structure_is s u rest (omega arith)) ∙ before pair (block 56 s) (omega arith) in
    let strings : apart pair (strings_block bytes) ≡ true = ap (apart pair) (strings_are s u rest h) ∙ before pair (block (56 + s) u) (omega arith) in
    record {
      ended =
          ap (λ o. option_map_or (is_apart_from_blocks bytes) o false) (reservations_are s u rest h)
          ∙ and_from (apart pair header_block && apart pair (structure_block bytes)) (apart pair (strings_block bytes))
          (and_from (apart pair header_block) (apart pair (structure_block bytes)) refl structure) strings;
    }

-- ---- the bytes of the blocks

structure_bytes : (structure strings : List ℕ) → 56 + length structure + length strings < 2 ^ 32
    → (let blob = whole (length structure) (length strings) (structure ++ strings) in bytes_of (structure_block blob) blob) ≡ structure
structure_bytes structure strings h =
    let blob = whole (length structure) (length strings) (structure ++ strings) in
    ap (λ b. bytes_of b blob) (structure_is (length structure) (length strings) (structure ++ strings) (omega arith)) ∙ take_at structure strings (length structure) refl

strings_bytes : (structure strings : List ℕ) → 56 + length structure + length strings < 2 ^ 32
    → (let blob = whole (length structure) (length strings) (structure ++ strings) in bytes_of (strings_block blob) blob) ≡ strings
strings_bytes structure strings h =
    let blob = whole (length structure) (length strings) (structure ++ strings) in
    ap (λ b. bytes_of b blob) (strings_are (length structure) (length strings) (structure ++ strings) h)
    ∙ ap (take (length strings)) (sym (drop-drop (length structure) 56 blob) ∙ drop_at structure strings (length structure) refl)
    ∙ take_all (length strings) strings (omega arith)

from_the_right : (structure strings : List ℕ) → whole (length structure) (length strings) (structure ++ strings) ≡ assembled structure strings
from_the_right structure strings =
    let header = header_of (length structure) (length strings) in
    sym (ap (λ front. front ++ strings) (append_assoc header (replicate 16 0) structure) ∙ append_assoc header (replicate 16 0 ++ structure) strings
    ∙ ap (λ rest. header ++ rest) (append_assoc (replicate 16 0) structure strings))

assembled_spells : (t : Tree) (structure strings : List ℕ) → 56 + length structure + length strings < 2 ^ 32 → StructureSpells strings structure t
    → Spells (whole (length structure) (length strings) (structure ++ strings)) t
assembled_spells t structure strings h carries =
    let s = length structure in
    let u = length strings in
    let rest = structure ++ strings in
    let blob = whole s u rest in
    let P : List ℕ → Type 0 = λ bytes. StructureSpells bytes structure t in
    let Q : List ℕ → Type 0 = λ bytes. StructureSpells (bytes_of (strings_block blob) blob) bytes t in
    record {
      header = record { header = header_kept s u rest h (length-append structure strings); blocks = blocks_kept s u rest h };
      reservations = reservations_kept s u rest h;
      structure = subst Q (sym (structure_bytes structure strings h)) (subst P (sym (strings_bytes structure strings h)) carries);
    }

length_assembled : (structure strings : List ℕ) → length (assembled structure strings) ≡ 56 + length structure + length strings
length_assembled structure strings =
    let front = header_of (length structure) (length strings) ++ replicate 16 0 in
    omega (arith, length-append (front ++ structure) strings, length-append front structure)

-- the one spelling of a valid tree spells it
pub spelling_spells : (t : Tree) → is_valid t ≡ true → length (spelling t) < 2 ^ 32 → Spells (spelling t) t
spelling_spells t valid h =
    let structure = structure_of (used_names t) t in
    let strings = strings_of (used_names t) in
    let small : 56 + length structure + length strings < 2 ^ 32 = omega (arith, length_assembled structure strings) in
    let P : List ℕ → Type 0 = λ bytes. Spells bytes t in
    subst P (from_the_right structure strings)
    (assembled_spells t structure strings small (structure_spells t valid (omega arith) (omega arith)))

-- what is made for a valid tree spells it
pub made_spells : (t : Tree) (r : Result (Vec ℕ Global) WriteError) → is_valid t ≡ true → Makes (λ v. v.items) (blob_of t) r → IfOk r (λ blob. Spells blob.items t)
unfolding blob_of
made_spells t (Ok v) valid h = let P : List ℕ → Type 0 = λ bytes. Spells bytes t in subst P (sym h.0) (spelling_spells t valid (omega (arith, h.1)))
made_spells t (Err e) valid h = tt
