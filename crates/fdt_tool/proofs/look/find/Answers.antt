use Rattle.fdt_tool.proofs.look.find.Goals as goal

pub loop-name-preserved-then-not-is_empty : goal.loop-name-preserved-then-not-is_empty
loop-name-preserved-then-not-is_empty c =
    let at = c.loop-name.invariant in
    let child = c.in_ok-node.ensures at.tree at.placed in
    record { tree = child.0; placed = child.2 }
