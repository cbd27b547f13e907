-- What is read from a chunk frame, element by element.
use Rattle.std.proofs.Common.{◌≡◌, ℕ, zero, suc, ◌+◌, ◌≤◌, Bool, cond, List, ◌∷◌, map, take, drop, replicate, Option, Some, None, refl, sym, ap, ◌∙◌, arith}
use Rattle.std.specs.Prelude.{nat_le}
use Rattle.std.specs.Int.{w64, from_le_bytes}
use Rattle.std.specs.List.{range_with_len}
use Rattle.std.proofs.lemmas.Bool.{le-leb, and_from}
use Rattle.std.proofs.lemmas.List.{take-take, drop-drop, drop-take}
use Rattle.ho_base.specs.Bytes.{u64_at}
use Rattle.folio_bitmaps.specs.Chunks.{Element, element_at, elements_of, start_of, next_of, count_of}
use Rattle.folio_bitmaps.proofs.Parts.{element_path}
use Rattle.record_frames.specs.Reading.{also, are_zero, items_at, front_at, chunk_layout}

-- an element from its 528 bytes
abbrev from_bytes : List ℕ → Element
from_bytes b = record { base = u64_at b 0; order = u64_at b 8; bits = drop 16 b }

-- a part of the first m bytes
part_of : (m a n : ℕ) (b : List ℕ) → a + n ≤ m → take n (drop a (take m b)) ≡ take n (drop a b)
part_of m a n b le = sym (drop-take a n (take m b)) ∙ ap (drop a) (take-take (a + n) m b le) ∙ drop-take a n b

from_bytes_is : (page : List ℕ) (k : ℕ) → from_bytes (take 528 (drop (start_of k) page)) ≡ element_at page k
from_bytes_is page k =
    let b = drop (start_of k) page in
    element_path (from_bytes (take 528 b)) (element_at page k)
    (ap (from_le_bytes w64) (part_of 528 0 8 b (omega arith)))
    (ap (from_le_bytes w64) (part_of 528 8 8 b (omega arith) ∙ ap (take 8) (drop-drop 8 (start_of k) page)))
    (drop-take 16 512 b ∙ ap (take 512) (drop-drop 16 (start_of k) page))

next_start : (k : ℕ) → start_of k + 528 ≡ start_of (k + 1)
next_start k = omega arith

items_are : (page : List ℕ) (count k : ℕ) → items_at 528 chunk_layout.item count (drop (start_of k) page) ≡ Some (map (element_at page) (range_with_len k count))
items_are page zero k = refl
items_are page (suc count) k =
    let first = from_bytes (take 528 (drop (start_of k) page)) in
    ap (λ (l : List ℕ). also (items_at 528 chunk_layout.item count l) (λ xs. Some (first ∷ xs))) (drop-drop 528 (start_of k) page ∙ ap (λ (j : ℕ). drop j page) (next_start k))
    ∙ ap (λ (o : Option (List Element)). also o (λ xs. Some (first ∷ xs))) (items_are page count (k + 1))
    ∙ ap (λ (e : Element). Some (e ∷ map (element_at page) (range_with_len (k + 1) count))) (from_bytes_is page k)

-- a chunk frame says its next one and its elements
pub front_is : (page : List ℕ) → count_of page ≤ 7 → take 16 (drop 16 page) ≡ replicate 16 0 → front_at chunk_layout page ≡ Some (record { next = next_of page; items = elements_of page })
unfolding front_at elements_of
front_is page few pad =
    ap (λ (b : Bool). cond b (also (items_at 528 chunk_layout.item (count_of page) (drop 32 page)) (λ items. Some (record { next = next_of page; items = items }))) None)
    (and_from (nat_le (count_of page) 7) (are_zero (take 16 (drop 16 page))) (le-leb (count_of page) 7 few) (ap are_zero pad))
    ∙ ap (λ (o : Option (List Element)). also o (λ items. Some (record { next = next_of page; items = items }))) (items_are page (count_of page) 0)
