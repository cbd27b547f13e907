use Rattle.std.proofs.Common.{◌≡◌, ◌<◌, ◌∙◌, sym, ap, subst, length, get_or, false}
use Rattle.fdt_blob.specs.Trees.{is_node_name}
use Rattle.fdt_blob.specs.declared.tree.Node.{out-Node}
use Rattle.fdt_blob.proofs.NodeLemmas.{has_names_refused}
use Rattle.fdt_blob.proofs.profile.+has_names.Goals as goal

pub returns-then-not-is_node_name : goal.returns-then-not-is_node_name
returns-then-not-is_node_name t c =
    let xs = (out-Node c.args.node.now).children.items in
    let child : c.child-item.result ≡ get_or xs c.loop-child.child-index c.child-item.result =
    c.child-item.is ∙ ap (λ ys. get_or ys c.loop-child.child-index c.child-item.result) c.deref-child-items.ensures.value in
    let refused : is_node_name (out-Node c.child-item.result).name.items ≡ false =
    sym (ap is_node_name c.deref-in-loop-child.ensures.value) ∙ sym c.is_node_name.ensures ∙ c.if-not-is_node_name.true in
    let within : c.loop-child.child-index < length xs =
    subst (λ ys. c.loop-child.child-index < length ys) c.deref-child-items.ensures.value c.loop-child-test.true in
    sym (has_names_refused c.args.node.now c.loop-child.child-index c.child-item.result within c.loop-child.invariant
    (sym (ap (λ n. is_node_name (out-Node n).name.items) child) ∙ refused))
