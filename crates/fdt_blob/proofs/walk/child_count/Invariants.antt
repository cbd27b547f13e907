-- The children so far and those that are left are all.
use Rattle.std.proofs.Common.{◌≡◌, ◌+◌, ◌≤◌, length, drop}
use Rattle.fdt_blob.specs.Items.{item_views}
use Rattle.fdt_blob.specs.Shape.{child_names}
use Rattle.fdt_blob.proofs.walk.child_count.Given as goal

abbrev pub invariant-loop-item : goal.invariant-loop-item
invariant-loop-item l = (l.count + length (child_names l.depth (item_views (drop l.item-index l.items))) ≡ length (child_names 0 (item_views l.items))) × (l.count ≤ l.item-index) × (l.depth ≤ l.item-index)
