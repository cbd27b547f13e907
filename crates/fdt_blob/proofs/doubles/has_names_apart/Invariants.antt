-- The items that are left have their names apart where all have.
use Rattle.std.proofs.Common.{◌≡◌, drop}
use Rattle.fdt_blob.specs.Items.{item_views}
use Rattle.fdt_blob.specs.Shape.{has_names_apart}
use Rattle.fdt_blob.proofs.doubles.has_names_apart.Given as goal

abbrev pub invariant-loop-at : goal.invariant-loop-at
invariant-loop-at l = has_names_apart (item_views (drop l.at l.items)) ≡ has_names_apart (item_views l.items)
