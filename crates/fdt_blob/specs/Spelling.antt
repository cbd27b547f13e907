-- The one spelling of a tree that is written.
use Rattle.std.specs.Prelude.{ℕ, ◌+◌, List, [], ◌∷◌, ◌++◌, length, replicate, if◌then◌else◌}
use Rattle.std.specs.List.{list_any, flat_map}
use Rattle.fdt_blob.specs.Trees.{Tree, same_name}
use Rattle.fdt_blob.specs.Tokens.{Token, begin_node, property, end_node, token_bytes, end_bytes, word, Item, begins, holds, ends, tree_items}

-- a list of names with one more at its end, unless it is there already
abbrev pub with_name : List (List ℕ) → List ℕ → List (List ℕ)
with_name names name = if list_any (same_name name) names then names else names ++ name ∷ []

-- names, and behind them the names of the properties among the items, each once, in order of first use
abbrev pub names_from : List (List ℕ) → List Item → List (List ℕ)
names_from names [] = names
names_from names (begins name ∷ items) = names_from names items
names_from names (holds name value ∷ items) = names_from (with_name names name) items
names_from names (ends ∷ items) = names_from names items

-- the names of a tree's properties, each once, in order of first use
abbrev pub used_names : Tree → List (List ℕ)
used_names t = names_from [] (tree_items t)

-- a strings block: each name with a zero behind it
abbrev pub strings_of : List (List ℕ) → List ℕ
strings_of names = flat_map (λ name. name ++ 0 ∷ []) names

-- the place of a name in the strings block of these names
abbrev pub place_in : List (List ℕ) → List ℕ → ℕ
place_in [] name = 0
place_in (n ∷ names) name = if same_name n name then 0 else length n + 1 + place_in names name

-- the token of an item where the strings block has these names
abbrev pub token_of : List (List ℕ) → Item → Token
token_of names (begins name) = begin_node name
token_of names (holds name value) = property name (place_in names name) value
token_of names ends = end_node

-- the structure block: a token an item, and END
abbrev pub structure_of : List (List ℕ) → Tree → List ℕ
structure_of names t = flat_map (λ item. token_bytes (token_of names item)) (tree_items t) ++ end_bytes

-- A header whose reservation block stands at 40 and has the ending pair alone, so that the structure block stands at 56
-- and the strings block behind it; the booting processor is 0.
abbrev pub header_of : ℕ → ℕ → List ℕ
header_of structure strings =
    word 0xd00d_feed ++ word (56 + structure + strings) ++ word 56 ++ word (56 + structure) ++ word 40 ++ word 17 ++ word 16
    ++ word 0 ++ word strings ++ word structure

-- the parts of a blob in their order, for a structure block and a strings block
abbrev pub assembled : List ℕ → List ℕ → List ℕ
assembled structure strings = header_of (length structure) (length strings) ++ replicate 16 0 ++ structure ++ strings

-- the canonical spelling of a tree
abbrev pub spelling : Tree → List ℕ
spelling t = assembled (structure_of (used_names t) t) (strings_of (used_names t))
