-- The tree that a node of the program is.
use Rattle.std.specs.Prelude.{map}
use Rattle.fdt_blob.specs.declared.tree.Prop.{Prop}
use Rattle.fdt_blob.specs.declared.tree.Node.{Node, Node', Row_of-Node, end_of-Node, more_of-Node}
use Rattle.fdt_blob.specs.Trees.{Property, Tree, Trees, node, no_trees, tree}

-- a property without where it lies in memory
abbrev pub property_view : Prop → Property
property_view p = record { name = p.name.items; value = p.value.items }

-- a node, with all below it, without where it lies in memory
abbrev mutual
  pub tree_view : Node → Tree
  tree_view (Node' name props shape children) = node name.items (map property_view props.items) (trees_view children)

  pub trees_view : {m : _} → Row_of-Node m → Trees
  trees_view end_of-Node = no_trees
  trees_view (more_of-Node child rest) = tree (tree_view child) (trees_view rest)
