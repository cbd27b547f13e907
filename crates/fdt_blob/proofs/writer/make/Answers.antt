use Rattle.std.proofs.Common.{◌≡◌, ℕ, List, [], ◌∙◌, ap, subst, Vec, Global}
use Rattle.std.proofs.lemmas.Result.{err_from_is_err_and}
use Rattle.fdt_blob.specs.Nodes.{tree_view}
use Rattle.fdt_blob.specs.Tokens.{tree_items}
use Rattle.fdt_blob.specs.Spelling.{structure_of, strings_of}
use Rattle.fdt_blob.specs.Writing.{Fails, Makes, texts, names_after, parts_of}
use Rattle.fdt_blob.proofs.WriteLemmas.{names_are, blob_is, fails_strings, fails_structure, fails_unnamed}
use Rattle.fdt_blob.proofs.writer.make.Goals as goal

pub returns-in_err-_unnamed : goal.returns-in_err-_unnamed
returns-in_err-_unnamed c =
    let p = err_from_is_err_and c.from_residual.result c.from_residual.ensures.1 in
    rw (p.1, p.2) (fails_unnamed (tree_view c.args.root.now) [] c.in_err-_unnamed.field-0.0 c.in_err-_unnamed.ensures)

pub returns-in_err-strings : goal.returns-in_err-strings
returns-in_err-strings c =
    let p = err_from_is_err_and c.from_residual-in_err-strings.result c.from_residual-in_err-strings.ensures.1 in
    let t = tree_view c.args.root.now in
    let names = c.list_node.new.names.items in
    let listed : texts names ≡ names_after [] (tree_items t) = names_are _ names t c.new-names.ensures.items c.in_ok-list_node.ensures in
    let P : List ℕ → Type 0 = λ bytes. Fails bytes c.in_err-strings.field-0.0 in
    let fails = subst P (ap (λ ns. strings_of (texts ns)) c.deref.ensures.value) c.in_err-strings.ensures in
    rw (p.1, p.2) (fails_strings t (texts names) c.in_err-strings.field-0.0 listed fails)

pub returns-in_err-structure : goal.returns-in_err-structure
returns-in_err-structure c =
    let p = err_from_is_err_and c.from_residual-in_err-structure.result c.from_residual-in_err-structure.ensures.1 in
    let t = tree_view c.args.root.now in
    let names = c.list_node.new.names.items in
    let listed : texts names ≡ names_after [] (tree_items t) = names_are _ names t c.new-names.ensures.items c.in_ok-list_node.ensures in
    let P : List ℕ → Type 0 = λ bytes. Fails bytes c.in_err-structure.field-0.0 in
    let fails = subst P (ap (λ ns. structure_of (texts ns) t) c.deref-2.ensures.value) c.in_err-structure.ensures in
    rw (p.1, p.2) (fails_structure t (texts names) c.in_err-structure.field-0.0 listed fails)

pub returns : goal.returns
returns c =
    let t = tree_view c.args.root.now in
    let names = c.list_node.new.names.items in
    let listed : texts names ≡ names_after [] (tree_items t) = names_are _ names t c.new-names.ensures.items c.in_ok-list_node.ensures in
    let structure = c.deref-3.ensures.value ∙ c.in_ok-structure.ensures.0 ∙ ap (λ ns. structure_of (texts ns) t) c.deref-2.ensures.value in
    let strings = c.deref-4.ensures.value ∙ c.in_ok-strings.ensures.0 ∙ ap (λ ns. strings_of (texts ns)) c.deref.ensures.value in
    let P : List ℕ → Type 0 = λ bytes. Makes (λ (v : Vec ℕ Global). v.items) bytes c.assemble.result in
    subst P (ap (λ bytes. parts_of bytes c.deref-4.result.now) structure ∙ ap (parts_of (structure_of (texts names) t)) strings ∙ blob_is t (texts names) listed)
    c.assemble.ensures
