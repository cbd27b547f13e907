use Rattle.fdt_blob.proofs.Shapes.{goes_on_left}
use Rattle.fdt_blob.proofs.shape.goes_on.Goals as goal

pub returns-then-depth-eq0 : goal.returns-then-depth-eq0
returns-then-depth-eq0 c =
    let closed = goes_on_left c.loop-item.has_child c.args.items.now c.loop-item.item-index c.loop-item-test.true in
    cc (closed, c.loop-item.invariant, c.if-depth-eq0.true)
