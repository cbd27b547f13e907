-- The properties so far and those that are left are all.
use Rattle.std.proofs.Common.{◌≡◌, ◌+◌, ◌≤◌, length, drop}
use Rattle.fdt_blob.specs.Items.{item_views}
use Rattle.fdt_blob.specs.Shape.{property_names}
use Rattle.fdt_blob.proofs.walk.property_count.Given as goal

abbrev pub invariant-loop-item : goal.invariant-loop-item
invariant-loop-item l = (l.count + length (property_names (item_views (drop l.item-index l.items))) ≡ length (property_names (item_views l.items))) × (l.count ≤ l.item-index)
