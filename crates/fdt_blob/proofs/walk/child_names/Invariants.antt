-- The names so far and those that are left are all.
use Rattle.std.proofs.Common.{◌≡◌, ◌++◌, ◌≤◌, map, drop}
use Rattle.fdt_blob.specs.Items.{item_views}
use Rattle.fdt_blob.specs.Shape.{child_names}
use Rattle.fdt_blob.proofs.walk.child_names.Given as goal

abbrev pub invariant-loop-item : goal.invariant-loop-item
invariant-loop-item l = (map (λ n. n.now) l.names.items ++ child_names l.depth (item_views (drop l.item-index l.items)) ≡ child_names 0 (item_views l.items)) × (l.depth ≤ l.item-index)
