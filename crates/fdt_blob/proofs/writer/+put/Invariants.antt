use Rattle.std.proofs.Common.{◌≡◌, ◌++◌, drop}
use Rattle.fdt_blob.specs.Tokens.{trees_items}
use Rattle.fdt_blob.specs.Writing.{texts, trees_of, items_bytes}
use Rattle.fdt_blob.proofs.writer.+put.Given as goal

-- with the bytes of what is left, the bytes so far are those of all
abbrev pub invariant-put_nodes-loop-node : goal.invariant-put_nodes-loop-node
invariant-put_nodes-loop-node l =
    l.out.items ++ items_bytes (texts l.names) (trees_items (trees_of (drop l.node-index l.nodes)))
    ≡ l.fn.out.items ++ items_bytes (texts l.names) (trees_items (trees_of l.nodes))
