-- The bytes of a node's parts, and what a step puts behind when a part of it fails.
use Rattle.std.proofs.Common.{◌≡◌, ℕ, ◌+◌, ◌<◌, List, [], ◌∷◌, ◌++◌, length, map, drop, get_or, replicate, Result, Ok, Err, refl, sym, ap, subst, arith, ◌∙◌, append_assoc, append-nil, length-append, Bor}
use Rattle.std.proofs.lemmas.List.{drop_more}
use Rattle.std.proofs.lemmas.List.Concat.{flat_map-append}
use Rattle.fdt_blob.specs.declared.tree.Prop.{Prop}
use Rattle.fdt_blob.specs.declared.tree.Node.{Node, out-Node}
use Rattle.fdt_blob.specs.declared.writer.WriteError.{WriteError}
use Rattle.fdt_blob.specs.declared.writer.WriteError.TheVariants.{TooBig, Memory}
use Rattle.fdt_blob.specs.Nodes.{property_view, tree_view}
use Rattle.fdt_blob.specs.Tokens.{Item, begins, holds, ends, begin_node, word, token_bytes, property_item, tree_items, trees_items}
use Rattle.fdt_blob.specs.Trees.{Tree}
use Rattle.fdt_blob.specs.Spelling.{token_of, structure_of, strings_of, assembled, used_names, header_of}
use Rattle.fdt_blob.specs.Writing.{Fails, Puts, texts, trees_of, items_bytes, names_after, parts_of, blob_of}
use Rattle.fdt_blob.proofs.NodeLemmas.{tree_view_is}

pub items_bytes_none : (names : List (List ℕ)) → items_bytes names [] ≡ []
unfolding items_bytes
items_bytes_none names = refl

pub items_bytes-append : (names : List (List ℕ)) (xs ys : List Item) → items_bytes names (xs ++ ys) ≡ items_bytes names xs ++ items_bytes names ys
unfolding items_bytes
items_bytes-append names xs ys = flat_map-append (λ item. token_bytes (token_of names item)) xs ys

pub properties_more : (names : List (List ℕ)) (xs : List Prop) (i : ℕ) (d : Prop) → i < length xs
    → items_bytes names (map property_item (map property_view (drop i xs)))
    ≡ token_bytes (token_of names (property_item (property_view (get_or xs i d)))) ++ items_bytes names (map property_item (map property_view (drop (i + 1) xs)))
unfolding items_bytes
properties_more names xs i d h = ap (λ ys. items_bytes names (map property_item (map property_view ys))) (drop_more xs i d h)

pub nodes_more : (names : List (List ℕ)) (xs : List Node) (i : ℕ) (d : Node) → i < length xs
    → items_bytes names (trees_items (trees_of (drop i xs)))
    ≡ items_bytes names (tree_items (tree_view (get_or xs i d))) ++ items_bytes names (trees_items (trees_of (drop (i + 1) xs)))
nodes_more names xs i d h =
    ap (λ ys. items_bytes names (trees_items (trees_of ys))) (drop_more xs i d h)
    ∙ items_bytes-append names (tree_items (tree_view (get_or xs i d))) (trees_items (trees_of (drop (i + 1) xs)))

ended : (names : List (List ℕ)) (xs : List Item) → items_bytes names (xs ++ ends ∷ []) ≡ items_bytes names xs ++ word 2
unfolding items_bytes
ended names xs = items_bytes-append names xs (ends ∷ [])

begun : (names : List (List ℕ)) (name : List ℕ) (xs : List Item) → items_bytes names (begins name ∷ xs) ≡ token_bytes (begin_node name) ++ items_bytes names xs
unfolding items_bytes
begun names name xs = refl

pub node_is : (names : List (List ℕ)) (n : Node) → items_bytes names (tree_items (tree_view n))
    ≡ token_bytes (begin_node (out-Node n).name.items)
    ++ (items_bytes names (map property_item (map property_view (out-Node n).props.items)) ++ (items_bytes names (trees_items (trees_of (out-Node n).children.items)) ++ word 2))
node_is names n =
    let props = map property_item (map property_view (out-Node n).props.items) in
    let below = trees_items (trees_of (out-Node n).children.items) in
    ap (λ t. items_bytes names (tree_items t)) (tree_view_is n)
    ∙ begun names (out-Node n).name.items (props ++ (below ++ ends ∷ []))
    ∙ ap (λ bytes. token_bytes (begin_node (out-Node n).name.items) ++ bytes)
    (items_bytes-append names props (below ++ ends ∷ []) ∙ ap (λ bytes. items_bytes names props ++ bytes) (ended names below))

-- where a part fails, so does the whole
pub fails_part : (front part rest : List ℕ) (e : WriteError) → Fails part e → Fails (front ++ (part ++ rest)) e
fails_part front part rest TooBig h = omega (arith, h, length-append front (part ++ rest), length-append part rest)
fails_part front part rest Memory h = tt

pub fails_front : (part rest : List ℕ) (e : WriteError) → Fails part e → Fails (part ++ rest) e
fails_front part rest e h = fails_part [] part rest e h

pub puts_part : (old more part mid rest new left : List ℕ) (e : WriteError) → mid ++ (part ++ rest) ≡ old ++ more
    → Puts mid part (Err e) new → Puts old more (Err e) left
puts_part old more part mid rest new left e same h =
    let P : List ℕ → Type 0 = λ bytes. Fails bytes e in
    subst P (append_assoc mid part rest ∙ same) (fails_front (mid ++ part) rest e h)

pub properties_part : (names : List (List ℕ)) (xs : List Prop) (i : ℕ) (x : Prop) (old mid new left : List ℕ) (e : WriteError)
    → i < length xs → x ≡ get_or xs i x
    → mid ++ items_bytes names (map property_item (map property_view (drop i xs))) ≡ old ++ items_bytes names (map property_item (map property_view xs))
    → Puts mid (token_bytes (token_of names (property_item (property_view x)))) (Err e) new
    → Puts old (items_bytes names (map property_item (map property_view xs))) (Err e) left
properties_part names xs i x old mid new left e within is same put =
    let rest = items_bytes names (map property_item (map property_view (drop (i + 1) xs))) in
    puts_part old _ (token_bytes (token_of names (property_item (property_view x)))) mid rest new left e
    (ap (λ b. mid ++ b) (ap (λ y. token_bytes (token_of names (property_item (property_view y))) ++ rest) is ∙ sym (properties_more names xs i x within)) ∙ same) put

pub nodes_part : (names : List (List ℕ)) (xs : List Node) (i : ℕ) (x : Node) (old mid new left : List ℕ) (e : WriteError)
    → i < length xs → x ≡ get_or xs i x
    → mid ++ items_bytes names (trees_items (trees_of (drop i xs))) ≡ old ++ items_bytes names (trees_items (trees_of xs))
    → Puts mid (items_bytes names (tree_items (tree_view x))) (Err e) new
    → Puts old (items_bytes names (trees_items (trees_of xs))) (Err e) left
nodes_part names xs i x old mid new left e within is same put =
    let rest = items_bytes names (trees_items (trees_of (drop (i + 1) xs))) in
    puts_part old _ (items_bytes names (tree_items (tree_view x))) mid rest new left e
    (ap (λ b. mid ++ b) (ap (λ y. items_bytes names (tree_items (tree_view y)) ++ rest) is ∙ sym (nodes_more names xs i x within)) ∙ same) put

pub structure_is : (names : List (List ℕ)) (t : Tree) → structure_of names t ≡ items_bytes names (tree_items t) ++ word 9
unfolding items_bytes
structure_is names t = refl

pub used_names_are : (t : Tree) → names_after [] (tree_items t) ≡ used_names t
unfolding names_after
used_names_are t = refl

pub blob_is : (t : Tree) (names : List (List ℕ)) → names ≡ names_after [] (tree_items t) → parts_of (structure_of names t) (strings_of names) ≡ blob_of t
unfolding blob_of parts_of
blob_is t names is = ap (λ ns. assembled (structure_of ns t) (strings_of ns)) (is ∙ used_names_are t)

strings_fail : (structure strings : List ℕ) (e : WriteError) → Fails strings e → Fails (parts_of structure strings) e
unfolding parts_of
strings_fail structure strings e h =
    let front = header_of (length structure) (length strings) ++ replicate 16 0 ++ structure in
    let P : List ℕ → Type 0 = λ bytes. Fails bytes e in
    subst P (ap (λ bytes. front ++ bytes) (append-nil strings)) (fails_part front strings [] e h)

structure_fails : (structure strings : List ℕ) (e : WriteError) → Fails structure e → Fails (parts_of structure strings) e
unfolding parts_of
structure_fails structure strings e h =
    let front = header_of (length structure) (length strings) ++ replicate 16 0 in
    let P : List ℕ → Type 0 = λ bytes. Fails bytes e in
    subst P (sym (append_assoc front structure strings)) (fails_part front structure strings e h)

-- where a block fails, so does the blob
pub fails_strings : (t : Tree) (names : List (List ℕ)) (e : WriteError) → names ≡ names_after [] (tree_items t) → Fails (strings_of names) e → Fails (blob_of t) e
fails_strings t names e is h =
    let P : List ℕ → Type 0 = λ bytes. Fails bytes e in
    subst P (blob_is t names is) (strings_fail (structure_of names t) (strings_of names) e h)

pub fails_structure : (t : Tree) (names : List (List ℕ)) (e : WriteError) → names ≡ names_after [] (tree_items t) → Fails (structure_of names t) e → Fails (blob_of t) e
fails_structure t names e is h =
    let P : List ℕ → Type 0 = λ bytes. Fails bytes e in
    subst P (blob_is t names is) (structure_fails (structure_of names t) (strings_of names) e h)

pub names_are : (start names : List (Bor (List ℕ))) (t : Tree) → start ≡ [] → texts names ≡ names_after (texts start) (tree_items t) → texts names ≡ names_after [] (tree_items t)
names_are start names t none is = is ∙ ap (λ rs. names_after (texts rs) (tree_items t)) none

-- what the last of several steps puts behind
pub puts_rest : (old more mid part new : List ℕ) (r : Result (Unit {0}) WriteError) → mid ++ part ≡ old ++ more → Puts mid part r new → Puts old more r new
puts_rest old more mid part new (Ok x) same h = h ∙ same
puts_rest old more mid part new (Err e) same h = let P : List ℕ → Type 0 = λ bytes. Fails bytes e in subst P same h

pub four_steps : (o o1 o2 o3 a b c d : List ℕ) → o1 ≡ o ++ a → o2 ≡ o1 ++ b → o3 ≡ o2 ++ c → o3 ++ d ≡ o ++ (a ++ (b ++ (c ++ d)))
four_steps o o1 o2 o3 a b c d e1 e2 e3 =
    ap (λ x. x ++ d) (e3 ∙ ap (λ x. x ++ c) (e2 ∙ ap (λ x. x ++ b) e1)) ∙ simp append_assoc

-- the size of a structure block doesn't hang on the names
sizes_agree : (names others : List (List ℕ)) (item : Item) → length (token_bytes (token_of names item)) ≡ length (token_bytes (token_of others item))
sizes_agree names others (begins name) = refl
sizes_agree names others (holds name value) = refl
sizes_agree names others ends = refl

items_agree : (names others : List (List ℕ)) (items : List Item) → length (items_bytes names items) ≡ length (items_bytes others items)
unfolding items_bytes
items_agree names others [] = refl
items_agree names others (item ∷ items) =
    omega (
      arith,
      sizes_agree names others item,
      items_agree names others items,
      length-append (token_bytes (token_of names item)) (items_bytes names items),
      length-append (token_bytes (token_of others item)) (items_bytes others items),
    )

structures_agree : (names others : List (List ℕ)) (t : Tree) → length (structure_of names t) ≡ length (structure_of others t)
structures_agree names others t =
    omega (
      arith,
      items_agree names others (tree_items t),
      ap length (structure_is names t),
      ap length (structure_is others t),
      length-append (items_bytes names (tree_items t)) (word 9),
      length-append (items_bytes others (tree_items t)) (word 9),
    )

fails_long : (a b : List ℕ) (e : WriteError) → length a ≡ length b → Fails a e → Fails b e
fails_long a b TooBig same h = omega arith
fails_long a b Memory same h = tt

pub fails_unnamed : (t : Tree) (names : List (List ℕ)) (e : WriteError) → Fails (structure_of names t) e → Fails (blob_of t) e
fails_unnamed t names e h =
    fails_structure t (names_after [] (tree_items t)) e refl
    (fails_long (structure_of names t) (structure_of (names_after [] (tree_items t)) t) e (structures_agree names (names_after [] (tree_items t)) t) h)
