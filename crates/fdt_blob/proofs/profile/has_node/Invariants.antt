use Rattle.std.proofs.Common.{◌≡◌, drop}
use Rattle.std.specs.List.{list_any}
use Rattle.fdt_blob.specs.Trees as trees
use Rattle.fdt_blob.specs.Writing.{trees_of}
use Rattle.fdt_blob.proofs.profile.has_node.Given as goal

-- what is left has the name exactly where all have it
abbrev pub invariant-loop-node : goal.invariant-loop-node
invariant-loop-node l =
    list_any (trees.same_name l.name) (trees.names_of (trees_of (drop l.node-index l.nodes))) ≡ list_any (trees.same_name l.name) (trees.names_of (trees_of l.nodes))
