use Rattle.std.proofs.Common.{◌≡◌, drop}
use Rattle.fdt_blob.specs.Tokens.{trees_items}
use Rattle.fdt_blob.specs.Writing.{texts, trees_of, names_after}
use Rattle.fdt_blob.proofs.strings.+list.Given as goal

-- with the names of what is left, the names so far are those of all
abbrev pub invariant-list_nodes-loop-node : goal.invariant-list_nodes-loop-node
invariant-list_nodes-loop-node l =
    names_after (texts l.names.items) (trees_items (trees_of (drop l.node-index l.nodes)))
    ≡ names_after (texts l.fn.names.items) (trees_items (trees_of l.nodes))
