-- The tokens of the one spelling: each can stand in the blob, and they are the tree's.
use Rattle.std.proofs.Common.{◌≡◌, ℕ, zero, suc, ◌+◌, ◌-◌, ◌^◌, ◌<◌, ◌≤◌, Bool, true, false, List, [], ◌∷◌, ◌++◌, length, map, replicate, refl, sym, ap, arith, length-append}
use Rattle.std.specs.Prelude.{not, ◌&&◌, ◌||◌, nat_eq, nat_lt, nat_le}
use Rattle.std.specs.List.{list_all, flat_map, AllByRecursion}
use Rattle.std.proofs.lemmas.Bool.{and_parts, and_from, lt-ltb, eqb-true, true≢false}
use Rattle.fdt_blob.specs.Trees.{Tree, is_valid, is_node_name, is_property_name, is_name_byte, is_property_byte, is_empty_name, name_of, has_names, has_no_double, within_levels, most_levels}
use Rattle.fdt_blob.specs.Tokens.{Item, begins, holds, ends, IsToken, is_text, token_bytes, items_of, tree_items, padding, end_bytes}
use Rattle.fdt_blob.specs.Shape.{goes_on, is_shape}
use Rattle.fdt_blob.specs.Spelling.{token_of, used_names, strings_of, structure_of}
use Rattle.fdt_blob.specs.Blob.{StructureSpells}
use Rattle.fdt_blob.proofs.ShapeOf.{IsRoot, shape_of_tree}
use Rattle.fdt_blob.proofs.UsedNames.{IsUsed, all_used, name_stands, place_within}

-- ---- names are texts

not_zero : (b : ℕ) → is_property_byte b ≡ true → nat_lt 0 b ≡ true
not_zero zero h = absurd (true≢false (sym h))
not_zero (suc b) h = lt-ltb 0 (suc b) (omega arith)

property_byte : (b : ℕ) → is_name_byte b ≡ true → is_property_byte b ≡ true
property_byte b h = ap (λ x. (x || nat_eq b 63) || nat_eq b 35) h

all_of : (p q : ℕ → Bool) → ((b : ℕ) → p b ≡ true → q b ≡ true) → (bytes : List ℕ) → list_all p bytes ≡ true → list_all q bytes ≡ true
all_of p q h [] e = refl
all_of p q h (b ∷ bytes) e =
    let s = and_parts (p b) (list_all p bytes) e in
    and_from (q b) (list_all q bytes) (h b s.0) (all_of p q h bytes s.1)

node_text : (name : List ℕ) → is_node_name name ≡ true → is_text name ≡ true
node_text name e =
    let s = and_parts (nat_le 1 (length name) && nat_le (length name) 31) (list_all is_name_byte name) e in
    let l = and_parts (nat_le 1 (length name)) (nat_le (length name) 31) s.0 in
    and_from (nat_le (length name) 31) (list_all (nat_lt 0) name) l.1
    (all_of is_name_byte (nat_lt 0) (λ b h. not_zero b (property_byte b h)) name s.1)

property_text : (name : List ℕ) → is_property_name name ≡ true → is_text name ≡ true
property_text name e =
    let s = and_parts (nat_le 1 (length name) && nat_le (length name) 31) (list_all is_property_byte name) e in
    let l = and_parts (nat_le 1 (length name)) (nat_le (length name) 31) s.0 in
    and_from (nat_le (length name) 31) (list_all (nat_lt 0) name) l.1 (all_of is_property_byte (nat_lt 0) not_zero name s.1)

root_text : (name : List ℕ) → is_empty_name name ≡ true → is_text name ≡ true
root_text [] e = refl
root_text (b ∷ name) e = absurd (omega (arith, eqb-true (length (b ∷ name)) 0 e))

-- an item's name is a text
abbrev HasText : Item → Type 0
HasText (begins name) = is_text name ≡ true
HasText (holds name value) = is_text name ≡ true
HasText ends = Unit {0}

texts_go : (items : List Item) (depth : ℕ) (has_child : Bool) → goes_on depth has_child items ≡ true → AllByRecursion HasText items
unfolding goes_on
texts_go [] depth has_child e = tt
texts_go (begins name ∷ items) depth has_child e =
    let a = and_parts (not (nat_eq depth 0)) (nat_lt depth most_levels && (is_node_name name && goes_on (depth + 1) false items)) e in
    let b = and_parts (nat_lt depth most_levels) (is_node_name name && goes_on (depth + 1) false items) a.1 in
    let c = and_parts (is_node_name name) (goes_on (depth + 1) false items) b.1 in
    (node_text name c.0, texts_go items (depth + 1) false c.1)
texts_go (holds name value ∷ items) depth has_child e =
    let a = and_parts (not (nat_eq depth 0)) (not has_child && (is_property_name name && goes_on depth has_child items)) e in
    let b = and_parts (not has_child) (is_property_name name && goes_on depth has_child items) a.1 in
    let c = and_parts (is_property_name name) (goes_on depth has_child items) b.1 in
    (property_text name c.0, texts_go items depth has_child c.1)
texts_go (ends ∷ items) depth has_child e =
    let a = and_parts (not (nat_eq depth 0)) (goes_on (depth - 1) true items) e in
    (tt, texts_go items (depth - 1) true a.1)

texts_of : (items : List Item) → is_shape items ≡ true → AllByRecursion HasText items
texts_of [] e = tt
texts_of (begins name ∷ items) e =
    let a = and_parts (is_empty_name name) (goes_on 1 false items) e in
    (root_text name a.0, texts_go items 1 false a.1)
texts_of (holds name value ∷ items) e = absurd (true≢false (sym e))
texts_of (ends ∷ items) e = absurd (true≢false (sym e))

-- ---- values are short

abbrev pub bytes_with : List (List ℕ) → Item → List ℕ
bytes_with names item = token_bytes (token_of names item)

abbrev IsShort : Item → Type 0
IsShort (begins name) = Unit {0}
IsShort (holds name value) = length value < 2 ^ 32
IsShort ends = Unit {0}

value_part : (names : List (List ℕ)) (name value : List ℕ) → length value ≤ length (bytes_with names (holds name value))
value_part names name value = omega (arith, length-append value (replicate (padding (length value)) 0))

values_short : (names : List (List ℕ)) (items : List Item) → length (flat_map (bytes_with names) items) < 2 ^ 32 → AllByRecursion IsShort items
values_short names [] h = tt
values_short names (begins name ∷ items) h =
    (tt, values_short names items (omega (arith, length-append (bytes_with names (begins name)) (flat_map (bytes_with names) items))))
values_short names (holds name value ∷ items) h = (
  omega (arith, value_part names name value, length-append (bytes_with names (holds name value)) (flat_map (bytes_with names) items)),
  values_short names items (omega (arith, length-append (bytes_with names (holds name value)) (flat_map (bytes_with names) items))),
)
values_short names (ends ∷ items) h =
    (tt, values_short names items (omega (arith, length-append (bytes_with names ends) (flat_map (bytes_with names) items))))

-- ---- together

tokens_stand : (names : List (List ℕ)) (items : List Item) → length (strings_of names) < 2 ^ 32 → AllByRecursion (IsUsed names) items → AllByRecursion HasText items → AllByRecursion IsShort items
    → AllByRecursion (IsToken (strings_of names)) (map (token_of names) items)
tokens_stand names [] small used text short = tt
tokens_stand names (begins name ∷ items) small used text short = (text.0, tokens_stand names items small used.1 text.1 short.1)
tokens_stand names (holds name value ∷ items) small used text short = (
  record { text = text.0; named = name_stands names name used.0; place_fits = omega (arith, place_within names name); value_fits = short.0 },
  tokens_stand names items small used.1 text.1 short.1,
)
tokens_stand names (ends ∷ items) small used text short = (tt, tokens_stand names items small used.1 text.1 short.1)

bytes_mapped : (names : List (List ℕ)) (items : List Item) → flat_map (bytes_with names) items ≡ flat_map token_bytes (map (token_of names) items)
bytes_mapped names [] = refl
bytes_mapped names (item ∷ items) = ap (λ bytes. bytes_with names item ++ bytes) (bytes_mapped names items)

items_again : (names : List (List ℕ)) (items : List Item) → items_of (map (token_of names) items) ≡ items
items_again names [] = refl
items_again names (begins name ∷ items) = ap (λ is. begins name ∷ is) (items_again names items)
items_again names (holds name value ∷ items) = ap (λ is. holds name value ∷ is) (items_again names items)
items_again names (ends ∷ items) = ap (λ is. ends ∷ is) (items_again names items)

root_of : (t : Tree) → is_valid t ≡ true → IsRoot t
root_of t e =
    let a = and_parts (is_empty_name (name_of t) && has_names t && within_levels most_levels t) (has_no_double t) e in
    let b = and_parts (is_empty_name (name_of t) && has_names t) (within_levels most_levels t) a.0 in
    let c = and_parts (is_empty_name (name_of t)) (has_names t) b.0 in
    record { unnamed = c.0; names = c.1; levels = b.1 }

pub structure_spells : (t : Tree) → is_valid t ≡ true → length (structure_of (used_names t) t) < 2 ^ 32 → length (strings_of (used_names t)) < 2 ^ 32
    → StructureSpells (strings_of (used_names t)) (structure_of (used_names t) t) t
structure_spells t valid structure strings =
    let names = used_names t in
    let short : length (flat_map (bytes_with names) (tree_items t)) < 2 ^ 32 = omega (arith, length-append (flat_map (bytes_with names) (tree_items t)) end_bytes) in
    record {
      tokens = map (token_of names) (tree_items t);
      each = tokens_stand names (tree_items t) strings (all_used (tree_items t) []) (texts_of (tree_items t) (shape_of_tree t (root_of t valid))) (values_short names (tree_items t) short);
      bytes = ap (λ bytes. bytes ++ end_bytes) (bytes_mapped names (tree_items t));
      items = items_again names (tree_items t);
      valid = valid;
    }
