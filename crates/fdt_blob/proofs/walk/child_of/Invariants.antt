-- What is left has the child that all has, and no more nodes are open than items were read.
use Rattle.std.proofs.Common.{◌≡◌, ◌≤◌, drop}
use Rattle.fdt_blob.specs.Items.{item_views}
use Rattle.fdt_blob.specs.Places.{child_from}
use Rattle.fdt_blob.proofs.walk.child_of.Given as goal

abbrev pub invariant-loop-at : goal.invariant-loop-at
invariant-loop-at l = (child_from l.name l.depth l.at (item_views (drop l.at l.items)) ≡ child_from l.name 0 0 (item_views l.items)) × (l.depth ≤ l.at)
