use Rattle.std.proofs.Common.{◌+◌, ◌∙◌, sym, ap, subst}
use Rattle.std.specs.Option.{option_map}
use Rattle.fdt_blob.specs.Items.{item_views}
use Rattle.fdt_blob.specs.Trees.{children_of}
use Rattle.fdt_blob.specs.Places.{IsChildAt, child_from}
use Rattle.fdt_blob.proofs.PlaceItems.{child_at}
use Rattle.fdt_blob.proofs.places.child_at.Goals as goal

pub returns-in-None : goal.returns-in-None
returns-in-None c = λ t at.
    let place = c.in-None.ensures.place ∙ ap (λ kept. child_from c.args.name.now 0 0 (item_views kept)) c.inner.ensures in
    subst (IsChildAt (item_views c.args.items.now) c.args.name.now (children_of t)) (ap (option_map (λ k. c.args.node.0 + 1 + k)) (sym place)) (child_at c.args.items.now c.args.node.0 t c.args.name.now at)

pub returns-in-Some : goal.returns-in-Some
returns-in-Some c = λ t at.
    let place = c.in-Some.ensures.place ∙ ap (λ kept. child_from c.args.name.now 0 0 (item_views kept)) c.inner.ensures in
    subst (IsChildAt (item_views c.args.items.now) c.args.name.now (children_of t)) (ap (option_map (λ k. c.args.node.0 + 1 + k)) (sym place)) (child_at c.args.items.now c.args.node.0 t c.args.name.now at)
