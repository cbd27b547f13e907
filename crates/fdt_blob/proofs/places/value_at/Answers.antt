use Rattle.std.proofs.Common.{◌∙◌, ap, subst}
use Rattle.fdt_blob.specs.Items.{item_views}
use Rattle.fdt_blob.specs.Reading.{Gives}
use Rattle.fdt_blob.specs.Places.{value_from}
use Rattle.fdt_blob.proofs.PlaceItems.{value_is}
use Rattle.fdt_blob.proofs.places.value_at.Goals as goal

pub returns : goal.returns
returns c = λ t at.
    subst (Gives (λ value. value.now) c.value_of.result) (ap (λ kept. value_from c.args.name.now (item_views kept)) c.inner.ensures ∙ value_is c.args.items.now c.args.node.0 t c.args.name.now at) c.value_of.ensures
