-- Names from a place on, and the names of a node's parts.
use Rattle.std.proofs.Common.{◌≡◌, ℕ, ◌+◌, ◌<◌, List, [], ◌∷◌, ◌++◌, length, map, drop, get_or, cond, refl, ap, arith, ◌∙◌, Bor, length-append}
use Rattle.std.proofs.lemmas.List.{drop_more}
use Rattle.fdt_blob.specs.declared.tree.Prop.{Prop}
use Rattle.fdt_blob.specs.declared.tree.Node.{Node, out-Node}
use Rattle.fdt_blob.specs.Trees.{same_name}
use Rattle.fdt_blob.specs.Nodes.{property_view, tree_view}
use Rattle.fdt_blob.specs.Tokens.{Item, begins, holds, ends, property_item, tree_items, trees_items}
use Rattle.fdt_blob.specs.Spelling.{with_name, strings_of, place_in}
use Rattle.fdt_blob.specs.Writing.{texts, trees_of, names_after}
use Rattle.fdt_blob.proofs.NodeLemmas.{tree_view_is}

pub place_more : (name : List ℕ) (xs : List (Bor (List ℕ))) (i : ℕ) (d : Bor (List ℕ)) → i < length xs
    → place_in (texts (drop i xs)) name ≡ cond (same_name (get_or xs i d).now name) 0 (length (get_or xs i d).now + 1 + place_in (texts (drop (i + 1) xs)) name)
place_more name xs i d h = ap (λ ys. place_in (texts ys) name) (drop_more xs i d h)

strings_cons : (n : List ℕ) (ns : List (List ℕ)) → length (strings_of (n ∷ ns)) ≡ length n + 1 + length (strings_of ns)
strings_cons n ns = omega (arith, length-append (n ++ 0 ∷ []) (strings_of ns), length-append n (0 ∷ []))

pub strings_more : (xs : List (Bor (List ℕ))) (i : ℕ) (d : Bor (List ℕ)) → i < length xs
    → length (strings_of (texts (drop i xs))) ≡ length (get_or xs i d).now + 1 + length (strings_of (texts (drop (i + 1) xs)))
strings_more xs i d h = ap (λ ys. length (strings_of (texts ys))) (drop_more xs i d h) ∙ strings_cons (get_or xs i d).now (texts (drop (i + 1) xs))

pub texts_more : (xs : List (Bor (List ℕ))) (i : ℕ) (d : Bor (List ℕ)) → i < length xs → texts (drop i xs) ≡ (get_or xs i d).now ∷ texts (drop (i + 1) xs)
texts_more xs i d h = ap texts (drop_more xs i d h)

pub texts_push : (xs : List (Bor (List ℕ))) (r : Bor (List ℕ)) → texts (xs ++ r ∷ []) ≡ texts xs ++ r.now ∷ []
texts_push [] r = refl
texts_push (x ∷ xs) r = ap (λ ys. x.now ∷ ys) (texts_push xs r)

pub names_after-append : (names : List (List ℕ)) (xs ys : List Item) → names_after names (xs ++ ys) ≡ names_after (names_after names xs) ys
unfolding names_after
names_after-append names [] ys = refl
names_after-append names (begins name ∷ xs) ys = names_after-append names xs ys
names_after-append names (holds name value ∷ xs) ys = names_after-append (with_name names name) xs ys
names_after-append names (ends ∷ xs) ys = names_after-append names xs ys

pub names_after_properties : (names : List (List ℕ)) (xs : List Prop) (i : ℕ) (d : Prop) → i < length xs
    → names_after names (map property_item (map property_view (drop i xs)))
    ≡ names_after (with_name names (get_or xs i d).name.items) (map property_item (map property_view (drop (i + 1) xs)))
unfolding names_after
names_after_properties names xs i d h = ap (λ ys. names_after names (map property_item (map property_view ys))) (drop_more xs i d h)

pub names_after_nodes : (names : List (List ℕ)) (xs : List Node) (i : ℕ) (d : Node) → i < length xs
    → names_after names (trees_items (trees_of (drop i xs)))
    ≡ names_after (names_after names (tree_items (tree_view (get_or xs i d)))) (trees_items (trees_of (drop (i + 1) xs)))
names_after_nodes names xs i d h =
    ap (λ ys. names_after names (trees_items (trees_of ys))) (drop_more xs i d h)
    ∙ names_after-append names (tree_items (tree_view (get_or xs i d))) (trees_items (trees_of (drop (i + 1) xs)))

pub names_after_none : (names : List (List ℕ)) → names_after names [] ≡ names
unfolding names_after
names_after_none names = refl

names_after_end : (names : List (List ℕ)) (xs : List Item) → names_after names (xs ++ ends ∷ []) ≡ names_after names xs
unfolding names_after
names_after_end names xs = names_after-append names xs (ends ∷ [])

names_after_begin : (names : List (List ℕ)) (name : List ℕ) (xs : List Item) → names_after names (begins name ∷ xs) ≡ names_after names xs
unfolding names_after
names_after_begin names name xs = refl

pub names_of_node : (names : List (List ℕ)) (n : Node) → names_after names (tree_items (tree_view n))
    ≡ names_after (names_after names (map property_item (map property_view (out-Node n).props.items))) (trees_items (trees_of (out-Node n).children.items))
names_of_node names n =
    let props = map property_item (map property_view (out-Node n).props.items) in
    let below = trees_items (trees_of (out-Node n).children.items) in
    ap (λ t. names_after names (tree_items t)) (tree_view_is n)
    ∙ names_after_begin names (out-Node n).name.items (props ++ (below ++ ends ∷ []))
    ∙ names_after-append names props (below ++ ends ∷ [])
    ∙ names_after_end (names_after names props) below

pub strings_at : (xs : List (Bor (List ℕ))) (i : ℕ) (d : Bor (List ℕ)) → i < length xs
    → strings_of (texts (drop i xs)) ≡ ((get_or xs i d).now ++ 0 ∷ []) ++ strings_of (texts (drop (i + 1) xs))
strings_at xs i d h = ap (λ ys. strings_of (texts ys)) (drop_more xs i d h)
