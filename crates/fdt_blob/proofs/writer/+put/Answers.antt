use Rattle.std.proofs.lemmas.Result.{err_from_is_err_and}
use Rattle.fdt_blob.specs.Writing.{texts}
use Rattle.fdt_blob.proofs.WriteLemmas.{nodes_part}
use Rattle.fdt_blob.proofs.writer.+put.Goals as goal

pub put_nodes-returns-in_err-put_node : goal.put_nodes-returns-in_err-put_node
put_nodes-returns-in_err-put_node t c =
    let p = err_from_is_err_and c.from_residual.result c.from_residual.ensures.1 in
    rw (p.1, p.2)
    (nodes_part (texts c.args.names.now) c.args.nodes.now c.loop-node.node-index c.node-item.result c.args.out.now.items
    c.loop-node.out.items c.put_node.new.out.items c.put_node.new.out.items c.in_err-put_node.field-0.0
    c.loop-node-test.true c.node-item.is c.loop-node.invariant c.in_err-put_node.ensures)
