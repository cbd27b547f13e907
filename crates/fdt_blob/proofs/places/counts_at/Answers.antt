use Rattle.std.proofs.Common.{◌∙◌, ap, length}
use Rattle.fdt_blob.specs.Items.{item_views}
use Rattle.fdt_blob.specs.Shape.{property_names, child_names}
use Rattle.fdt_blob.proofs.PlaceItems.{property_count_is, child_count_is}
use Rattle.fdt_blob.proofs.places.counts_at.Goals as goal

pub returns-clause-properties : goal.returns-clause-properties
returns-clause-properties c = λ t at.
    c.property_count.ensures.count ∙ ap (λ kept. length (property_names (item_views kept))) c.inner-behind.ensures ∙ property_count_is c.args.items.now c.args.node.0 t at

pub returns-clause-children : goal.returns-clause-children
returns-clause-children c = λ t at.
    c.child_count.ensures.count ∙ ap (λ kept. length (child_names 0 (item_views kept))) c.inner-behind.ensures ∙ child_count_is c.args.items.now c.args.node.0 t at
