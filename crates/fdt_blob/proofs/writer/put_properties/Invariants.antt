use Rattle.std.proofs.Common.{◌≡◌, ◌++◌, drop, map}
use Rattle.fdt_blob.specs.Tokens.{property_item}
use Rattle.fdt_blob.specs.Nodes.{property_view}
use Rattle.fdt_blob.specs.Writing.{texts, items_bytes}
use Rattle.fdt_blob.proofs.writer.put_properties.Given as goal

-- with the bytes of what is left, the bytes so far are those of all
abbrev pub invariant-loop-prop : goal.invariant-loop-prop
invariant-loop-prop l =
    l.out.items ++ items_bytes (texts l.names) (map property_item (map property_view (drop l.prop-index l.props)))
    ≡ l.fn.out.items ++ items_bytes (texts l.names) (map property_item (map property_view l.props))
