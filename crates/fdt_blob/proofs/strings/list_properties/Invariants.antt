use Rattle.std.proofs.Common.{◌≡◌, drop, map}
use Rattle.fdt_blob.specs.Tokens.{property_item}
use Rattle.fdt_blob.specs.Nodes.{property_view}
use Rattle.fdt_blob.specs.Writing.{texts, names_after}
use Rattle.fdt_blob.proofs.strings.list_properties.Given as goal

-- with the names of what is left, the names so far are those of all
abbrev pub invariant-loop-prop : goal.invariant-loop-prop
invariant-loop-prop l =
    names_after (texts l.names.items) (map property_item (map property_view (drop l.prop-index l.props)))
    ≡ names_after (texts l.fn.names.items) (map property_item (map property_view l.props))
