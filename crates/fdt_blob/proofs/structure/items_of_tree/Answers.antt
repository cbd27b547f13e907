use Rattle.std.proofs.Common.{◌≡◌, ◌∙◌, sym, true, false}
use Rattle.std.specs.Prelude.{◌&&◌}
use Rattle.fdt_blob.specs.Items.{item_views}
use Rattle.fdt_blob.specs.Shape.{is_shape, has_names_apart}
use Rattle.fdt_blob.proofs.Opened.{tree_spelled, no_tree_spelled}
use Rattle.fdt_blob.proofs.structure.items_of_tree.Goals as goal

pub returns-then-branch-clause-found : goal.returns-then-branch-clause-found
returns-then-branch-clause-found c =
    let read = rw c.in-Some.is at c.in_ok-items.ensures.found in
    let items = item_views c.in-Some.items.items in
    let both : (is_shape items && has_names_apart items) ≡ true = rw (← c.deref.ensures.value) (sym c.in_ok-is_tree.ensures ∙ c.if-branch.true) in
    tree_spelled c.args.strings.now c.args.block.now items read both

pub returns-clause-found : goal.returns-clause-found
returns-clause-found c =
    let read = rw c.in-Some.is at c.in_ok-items.ensures.found in
    let items = item_views c.in-Some.items.items in
    let not_both : (is_shape items && has_names_apart items) ≡ false = rw (← c.deref.ensures.value) (sym c.in_ok-is_tree.ensures ∙ c.if-branch.false) in
    no_tree_spelled c.args.strings.now c.args.block.now items read not_both
