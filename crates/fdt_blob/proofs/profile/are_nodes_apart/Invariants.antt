use Rattle.std.proofs.Common.{◌≡◌, drop}
use Rattle.fdt_blob.specs.Trees as trees
use Rattle.fdt_blob.specs.Writing.{trees_of}
use Rattle.fdt_blob.proofs.profile.are_nodes_apart.Given as goal

-- what is left keeps the rule exactly where all do
abbrev pub invariant-loop-i : goal.invariant-loop-i
invariant-loop-i l =
    trees.all_apart (trees.names_of (trees_of (drop l.i l.nodes))) ≡ trees.all_apart (trees.names_of (trees_of l.nodes))
