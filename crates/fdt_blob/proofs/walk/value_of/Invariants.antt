-- What is left has the value that all has.
use Rattle.std.proofs.Common.{◌≡◌, drop}
use Rattle.fdt_blob.specs.Items.{item_views}
use Rattle.fdt_blob.specs.Places.{value_from}
use Rattle.fdt_blob.proofs.walk.value_of.Given as goal

abbrev pub invariant-loop-item : goal.invariant-loop-item
invariant-loop-item l = value_from l.name (item_views (drop l.item-index l.items)) ≡ value_from l.name (item_views l.items)
