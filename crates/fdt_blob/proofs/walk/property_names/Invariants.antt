-- The names so far and those that are left are all.
use Rattle.std.proofs.Common.{◌≡◌, ◌++◌, map, drop}
use Rattle.fdt_blob.specs.Items.{item_views}
use Rattle.fdt_blob.specs.Shape.{property_names}
use Rattle.fdt_blob.proofs.walk.property_names.Given as goal

abbrev pub invariant-loop-item : goal.invariant-loop-item
invariant-loop-item l = map (λ n. n.now) l.names.items ++ property_names (item_views (drop l.item-index l.items)) ≡ property_names (item_views l.items)
