use Rattle.std.proofs.Common.{◌≡◌, map, drop}
use Rattle.std.specs.List.{list_all}
use Rattle.fdt_blob.specs.Trees as trees
use Rattle.fdt_blob.specs.Nodes.{property_view}
use Rattle.fdt_blob.proofs.profile.have_property_names.Given as goal

-- what is left keeps the rule exactly where all do
abbrev pub invariant-loop-prop : goal.invariant-loop-prop
invariant-loop-prop l =
    list_all trees.is_property_name (trees.names_of_properties (map property_view (drop l.prop-index l.props)))
    ≡ list_all trees.is_property_name (trees.names_of_properties (map property_view l.props))
