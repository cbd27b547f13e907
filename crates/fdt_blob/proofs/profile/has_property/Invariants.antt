use Rattle.std.proofs.Common.{◌≡◌, map, drop}
use Rattle.std.specs.List.{list_any}
use Rattle.fdt_blob.specs.Trees as trees
use Rattle.fdt_blob.specs.Nodes.{property_view}
use Rattle.fdt_blob.proofs.profile.has_property.Given as goal

-- what is left has the name exactly where all have it
abbrev pub invariant-loop-prop : goal.invariant-loop-prop
invariant-loop-prop l =
    list_any (trees.same_name l.name) (trees.names_of_properties (map property_view (drop l.prop-index l.props)))
    ≡ list_any (trees.same_name l.name) (trees.names_of_properties (map property_view l.props))
