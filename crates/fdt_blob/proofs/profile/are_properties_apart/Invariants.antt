use Rattle.std.proofs.Common.{◌≡◌, map, drop}
use Rattle.fdt_blob.specs.Trees as trees
use Rattle.fdt_blob.specs.Nodes.{property_view}
use Rattle.fdt_blob.proofs.profile.are_properties_apart.Given as goal

-- what is left keeps the rule exactly where all do
abbrev pub invariant-loop-i : goal.invariant-loop-i
invariant-loop-i l =
    trees.all_apart (trees.names_of_properties (map property_view (drop l.i l.props))) ≡ trees.all_apart (trees.names_of_properties (map property_view l.props))
