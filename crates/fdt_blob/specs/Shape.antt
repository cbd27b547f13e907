-- Which items are a tree's, read from left to right.
use Rattle.std.specs.Prelude.{ℕ, ◌+◌, ◌-◌, Bool, true, false, not, ◌&&◌, ◌==◌, nat_lt, List, [], ◌∷◌, if◌then◌else◌}
use Rattle.fdt_blob.specs.Trees.{is_node_name, is_property_name, is_empty_name, all_apart, most_levels}
use Rattle.fdt_blob.specs.Tokens.{Item, begins, holds, ends}

-- The rest of a tree's items, where this many nodes have begun and not ended, and the innermost has a child already or
-- not. Behind a child stands no property.
unfoldable pub goes_on : ℕ → Bool → List Item → Bool
goes_on depth has_child [] = depth == 0
goes_on depth has_child (begins name ∷ items) = not (depth == 0) && (nat_lt depth most_levels && (is_node_name name && goes_on (depth + 1) false items))
goes_on depth has_child (holds name value ∷ items) = not (depth == 0) && (not has_child && (is_property_name name && goes_on depth has_child items))
goes_on depth has_child (ends ∷ items) = not (depth == 0) && goes_on (depth - 1) true items

-- the items are those of a tree whose names and levels keep the rules
abbrev pub is_shape : List Item → Bool
is_shape [] = false
is_shape (begins name ∷ items) = is_empty_name name && goes_on 1 false items
is_shape (holds name value ∷ items) = false
is_shape (ends ∷ items) = false

-- what stands behind the begin of a node: the names of its properties
unfoldable pub property_names : List Item → List (List ℕ)
property_names [] = []
property_names (begins name ∷ items) = []
property_names (holds name value ∷ items) = name ∷ property_names items
property_names (ends ∷ items) = []

-- the names of its children, this many nodes below it
unfoldable pub child_names : ℕ → List Item → List (List ℕ)
child_names depth [] = []
child_names depth (begins name ∷ items) = if depth == 0 then name ∷ child_names (depth + 1) items else child_names (depth + 1) items
child_names depth (holds name value ∷ items) = child_names depth items
child_names depth (ends ∷ items) = if depth == 0 then [] else child_names (depth - 1) items

-- no name stands twice among the properties or the children of a node that begins here
unfoldable pub has_names_apart : List Item → Bool
has_names_apart [] = true
has_names_apart (begins name ∷ items) = all_apart (property_names items) && (all_apart (child_names 0 items) && has_names_apart items)
has_names_apart (holds name value ∷ items) = has_names_apart items
has_names_apart (ends ∷ items) = has_names_apart items
