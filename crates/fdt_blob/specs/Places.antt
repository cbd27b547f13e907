-- Nodes named by the place of their items.
use Rattle.std.specs.Prelude.{◌≡◌, ℕ, ◌+◌, ◌-◌, ◌&&◌, ◌==◌, List, [], ◌∷◌, ◌++◌, drop, Option, Some, None, if◌then◌else◌}
use Rattle.fdt_blob.specs.Trees.{Tree, Trees, same_name, tree_in}
use Rattle.fdt_blob.specs.Blob.{StructureSpells}
use Rattle.fdt_blob.specs.Tokens.{Item, begins, holds, ends, tree_items}

-- the items of a tree stand from a place on
pub record IsTreeAt (items : List Item) (at : ℕ) (t : Tree) : Type 0 where
  pub rest : List Item
  pub placed : drop at items ≡ tree_items t ++ rest

-- the items of some tree stand from a place on
pub record IsNodeAt (items : List Item) (at : ℕ) : Type 0 where
  pub tree : Tree
  pub placed : IsTreeAt items at tree

-- behind the begin of a node: the value of its first property with a name
unfoldable pub value_from : List ℕ → List Item → Option (List ℕ)
value_from name [] = None
value_from name (begins other ∷ items) = None
value_from name (holds other value ∷ items) = if same_name other name then Some value else value_from name items
value_from name (ends ∷ items) = None

-- the place of its first child with a name, this many nodes below it and behind this many items
unfoldable pub child_from : List ℕ → ℕ → ℕ → List Item → Option ℕ
child_from name depth at [] = None
child_from name depth at (begins other ∷ items) =
    if depth == 0 && same_name other name then Some at else child_from name (depth + 1) (at + 1) items
child_from name depth at (holds other value ∷ items) = child_from name depth (at + 1) items
child_from name depth at (ends ∷ items) = if depth == 0 then None else child_from name (depth - 1) (at + 1) items

-- The place of a child: there is none where no child has the name, else the first child with the name stands there.
abbrev pub IsChildAt : List Item → List ℕ → Trees → Option ℕ → Type 0
IsChildAt items name children None = tree_in name children ≡ None
IsChildAt items name children (Some at) = (child : Tree) × (tree_in name children ≡ Some child) × IsTreeAt items at child

-- what contracts see of a reader: the items of its tree
pub record Carries (items : List Item) (t : Tree) : Type 0 where
  pub whole : items ≡ tree_items t

-- a structure block spells a tree, whose items these are
pub record SpellsTree (strings block : List ℕ) (items : List Item) : Type 0 where
  pub whole : Tree
  pub spells : StructureSpells strings block whole
  pub carries : Carries items whole
