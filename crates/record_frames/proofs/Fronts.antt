-- A frame that begins with the bytes of a sheet is read as this sheet.
use Rattle.std.proofs.Common.{◌≡◌, ℕ, zero, suc, ◌-◌, ◌^◌, ◌<◌, ◌≤◌, Bool, true, cond, List, [], ◌∷◌, ◌++◌, length, take, drop, Option, Some, None, refl, sym, ap, ◌∙◌, append_assoc, arith}
use Rattle.std.specs.Prelude.{nat_le, ◌&&◌}
use Rattle.std.specs.List.{list_all, flat_map}
use Rattle.std.proofs.lemmas.Bool.{le-leb, and_parts, and_from}
use Rattle.std.proofs.lemmas.List.{take_at, drop_at, take-append-drop, length-append, length-replicate}
use Rattle.std.proofs.lemmas.Nat.{from_le_bytes-to_le_bytes_8}
use Rattle.ho_base.specs.Bytes.{u64_at}
use Rattle.record_frames.specs.Ram.{Begins}
use Rattle.record_frames.specs.Sheets.{number, zeros, sheet_bytes}
use Rattle.record_frames.specs.Reading.{Front, Layout, also, are_zero, items_at, front_at}

-- bytes that begin with a front are the front and a rest
pub behind : (bytes front : List ℕ) → Begins bytes front → bytes ≡ front ++ drop (length front) bytes
behind bytes front e = sym (take-append-drop (length front) bytes) ∙ ap (λ (x : List ℕ). x ++ drop (length front) bytes) e

pub zeros_are : (k : ℕ) → are_zero (zeros k) ≡ true
zeros_are zero = refl
zeros_are (suc k) = zeros_are k

-- an item's bytes have the size, and the item is read from them
pub record Again {E : Type 0} (l : Layout E) (bytes : E → List ℕ) (x : E) : Type 0 where
  pub size : length (bytes x) ≡ l.size
  pub read : l.item (bytes x) ≡ Some x

pub items_again : {E : Type 0} (l : Layout E) (bytes : E → List ℕ) (ok : E → Bool) → ((x : E) → ok x ≡ true → Again l bytes x)
    → (items : List E) (rest : List ℕ) → list_all ok items ≡ true → items_at l.size l.item (length items) (flat_map bytes items ++ rest) ≡ Some items
items_again l bytes ok again [] rest h = refl
items_again l bytes ok again (x ∷ xs) rest h =
    let hs = and_parts (ok x) (list_all ok xs) h in
    let a = again x hs.0 in
    let more = flat_map bytes xs ++ rest in
    let parts : flat_map bytes (x ∷ xs) ++ rest ≡ bytes x ++ more = append_assoc (bytes x) (flat_map bytes xs) rest in
    ap (λ (b : List ℕ). also (l.item (take l.size b)) (λ y. also (items_at l.size l.item (length xs) (drop l.size b)) (λ ys. Some (y ∷ ys)))) parts
    ∙ ap (λ (b : List ℕ). also (l.item b) (λ y. also (items_at l.size l.item (length xs) (drop l.size (bytes x ++ more))) (λ ys. Some (y ∷ ys)))) (take_at (bytes x) more l.size a.size)
    ∙ ap (λ (o : Option _). also o (λ y. also (items_at l.size l.item (length xs) (drop l.size (bytes x ++ more))) (λ ys. Some (y ∷ ys)))) a.read
    ∙ ap (λ (b : List ℕ). also (items_at l.size l.item (length xs) b) (λ ys. Some (x ∷ ys))) (drop_at (bytes x) more l.size a.size)
    ∙ ap (λ (o : Option (List _)). also o (λ ys. Some (x ∷ ys))) (items_again l bytes ok again xs rest hs.1)

-- the parts from which a front is put together
abbrev front_of : {E : Type 0} → Layout E → ℕ → ℕ → List ℕ → List ℕ → Option (Front E)
front_of l next count pad items =
    cond (nat_le count l.most && are_zero pad) (also (items_at l.size l.item count items) (λ items. Some (record { next = next; items = items }))) None

-- the first two numbers of a frame
pub first_number : (a b : ℕ) (rest : List ℕ) → a < 2 ^ 64 → u64_at (number a ++ number b ++ rest) 0 ≡ a
first_number a b rest h = from_le_bytes-to_le_bytes_8 a h

pub second_number : (a b : ℕ) (rest : List ℕ) → b < 2 ^ 64 → u64_at (number a ++ number b ++ rest) 8 ≡ b
second_number a b rest h = from_le_bytes-to_le_bytes_8 b h

pub front_again : {E : Type 0} (l : Layout E) (bytes : E → List ℕ) (ok : E → Bool) → ((x : E) → ok x ≡ true → Again l bytes x)
    → (next : ℕ) (items : List E) (page : List ℕ) → next < 2 ^ 64 → length items ≤ l.most → l.most < 2 ^ 64 → 16 ≤ l.head → list_all ok items ≡ true
    → Begins page (sheet_bytes l.head bytes next items) → front_at l page ≡ Some (record { next = next; items = items })
unfolding front_at
front_again l bytes ok again next items page fits few most head h begins =
    let pad = zeros (l.head - 16) in
    let all = flat_map bytes items in
    let rest = drop (length (sheet_bytes l.head bytes next items)) page in
    let n = number next in
    let c = number (length items) in
    let parts : page ≡ n ++ c ++ (pad ++ (all ++ rest)) =
    behind page (sheet_bytes l.head bytes next items) begins ∙ append_assoc (n ++ c ++ pad) all rest ∙ append_assoc (n ++ c) pad (all ++ rest) in
    let p = n ++ c ++ (pad ++ (all ++ rest)) in
    let padlen : length pad ≡ l.head - 16 = length-replicate (l.head - 16) 0 in
    let headlen : length (n ++ c ++ pad) ≡ l.head = length-append (n ++ c) pad ∙ omega (arith, padlen, head) in
    let count : u64_at p 8 ≡ length items = second_number next (length items) (pad ++ (all ++ rest)) (omega (arith, few, most)) in
    let first : u64_at p 0 ≡ next = first_number next (length items) (pad ++ (all ++ rest)) fits in
    let middle : take (l.head - 16) (drop 16 p) ≡ pad = take_at pad (all ++ rest) (l.head - 16) padlen in
    let tail : drop l.head p ≡ all ++ rest =
    ap (λ (x : List ℕ). drop l.head x) (sym (append_assoc (n ++ c) pad (all ++ rest))) ∙ drop_at (n ++ c ++ pad) (all ++ rest) l.head headlen in
    ap (front_at l) parts
    ∙ ap (λ (x : ℕ). front_of l x (u64_at p 8) (take (l.head - 16) (drop 16 p)) (drop l.head p)) first
    ∙ ap (λ (x : ℕ). front_of l next x (take (l.head - 16) (drop 16 p)) (drop l.head p)) count
    ∙ ap (λ (x : List ℕ). front_of l next (length items) x (drop l.head p)) middle
    ∙ ap (λ (x : List ℕ). front_of l next (length items) pad x) tail
    ∙ ap (λ (b : Bool). cond b (also (items_at l.size l.item (length items) (all ++ rest)) (λ xs. Some (record { next = next; items = xs }))) None)
    (and_from (nat_le (length items) l.most) (are_zero pad) (le-leb (length items) l.most few) (zeros_are (l.head - 16)))
    ∙ ap (λ (o : Option (List _)). also o (λ xs. Some (record { next = next; items = xs }))) (items_again l bytes ok again items rest h)
