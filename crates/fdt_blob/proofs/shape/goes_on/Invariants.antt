-- What is left goes on from here as all of it goes on from the root.
use Rattle.std.proofs.Common.{◌≡◌, false, drop}
use Rattle.fdt_blob.specs.Items.{item_views}
use Rattle.fdt_blob.specs.Shape.{goes_on}
use Rattle.fdt_blob.proofs.shape.goes_on.Given as goal

abbrev pub invariant-loop-item : goal.invariant-loop-item
invariant-loop-item l = goes_on l.depth l.has_child (item_views (drop l.item-index l.items)) ≡ goes_on 1 false (item_views l.items)
