-- The tree of a node by its fields.
use Rattle.std.proofs.lemmas.List.{drop_more}
use Rattle.std.specs.List.{list_all}
use Rattle.std.proofs.Common.{◌≡◌, ℕ, ◌+◌, ◌-◌, Bool, true, false, ◌&&◌, nat_lt, ◌<◌, List, ◌∷◌, length, map, drop, get_or, refl, ap, sym, ◌∙◌}
use Rattle.fdt_blob.specs.declared.tree.Prop.{Prop}
use Rattle.fdt_blob.specs.declared.tree.Node.{Node, Node', Row_of-Node, end_of-Node, more_of-Node, items-the_row-Node, items_shown-the_row-Node-0, out-Node}
use Rattle.fdt_blob.specs.Trees.{node, tree, name_of, names_of, names_of_properties, is_valid, is_empty_name, most_levels, is_node_name, is_property_name, has_names, have_names, has_no_double, have_no_double, all_apart, within_levels, all_within_levels}
use Rattle.fdt_blob.specs.Nodes.{property_view, tree_view, trees_view}
use Rattle.fdt_blob.specs.Writing.{trees_of}

row_trees : (n : _) (row : Row_of-Node n) → trees_view row ≡ trees_of (items-the_row-Node n row)
row_trees n end_of-Node = refl
row_trees n (more_of-Node child rest) = ap (tree (tree_view child)) (row_trees _ rest)

pub tree_view_is : (n : Node) → tree_view n ≡ node (out-Node n).name.items (map property_view (out-Node n).props.items) (trees_of (out-Node n).children.items)
unfolding out-Node Rattle.fdt_blob.specs.declared.tree.Node.TheBlock.shown-the_row-Node-0 denote.Hole.Carrier.out
tree_view_is (Node' name props shape children) =
    ap (node name.items (map property_view props.items)) (row_trees _ children ∙ ap trees_of (sym (items_shown-the_row-Node-0 shape children)))

-- the names of the properties and of the nodes from a place on
pub property_names_more : (xs : List Prop) (i : ℕ) (d : Prop) → i < length xs
    → names_of_properties (map property_view (drop i xs)) ≡ (get_or xs i d).name.items ∷ names_of_properties (map property_view (drop (i + 1) xs))
property_names_more xs i d h = ap (λ ys. names_of_properties (map property_view ys)) (drop_more xs i d h)

pub node_names_more : (xs : List Node) (i : ℕ) (d : Node) → i < length xs
    → names_of (trees_of (drop i xs)) ≡ (out-Node (get_or xs i d)).name.items ∷ names_of (trees_of (drop (i + 1) xs))
node_names_more xs i d h =
    ap (λ ys. names_of (trees_of ys)) (drop_more xs i d h)
    ∙ ap (λ t. name_of t ∷ names_of (trees_of (drop (i + 1) xs))) (tree_view_is (get_or xs i d))

-- the rules of a valid tree, by the fields of its first node
pub within_levels_is : (levels : ℕ) (n : Node) → within_levels levels (tree_view n) ≡ (nat_lt 0 levels && all_within_levels (levels - 1) (trees_of (out-Node n).children.items))
within_levels_is levels n = ap (within_levels levels) (tree_view_is n)

pub has_names_is : (n : Node) → has_names (tree_view n)
    ≡ (list_all is_property_name (names_of_properties (map property_view (out-Node n).props.items)) && have_names (trees_of (out-Node n).children.items))
has_names_is n = ap has_names (tree_view_is n)

pub has_no_double_is : (n : Node) → has_no_double (tree_view n)
    ≡ (all_apart (names_of_properties (map property_view (out-Node n).props.items)) && all_apart (names_of (trees_of (out-Node n).children.items))
    && have_no_double (trees_of (out-Node n).children.items))
has_no_double_is n = ap has_no_double (tree_view_is n)

pub is_valid_is : (n : Node) → is_valid (tree_view n)
    ≡ (is_empty_name (out-Node n).name.items && has_names (tree_view n) && within_levels most_levels (tree_view n) && has_no_double (tree_view n))
is_valid_is n = ap (λ t. is_empty_name (name_of t) && has_names (tree_view n) && within_levels most_levels (tree_view n) && has_no_double (tree_view n)) (tree_view_is n)

-- and from a place on
pub have_names_more : (xs : List Node) (i : ℕ) (d : Node) → i < length xs
    → have_names (trees_of (drop i xs)) ≡ (is_node_name (out-Node (get_or xs i d)).name.items && has_names (tree_view (get_or xs i d)) && have_names (trees_of (drop (i + 1) xs)))
have_names_more xs i d h =
    ap (λ ys. have_names (trees_of ys)) (drop_more xs i d h)
    ∙ ap (λ t. is_node_name (name_of t) && has_names (tree_view (get_or xs i d)) && have_names (trees_of (drop (i + 1) xs))) (tree_view_is (get_or xs i d))

and_false : (b : Bool) → (b && false) ≡ false
and_false true = refl
and_false false = refl

-- a name that isn't allowed below a node
pub has_names_refused : (n : Node) (i : ℕ) (d : Node) → i < length (out-Node n).children.items
    → have_names (trees_of (drop i (out-Node n).children.items)) ≡ have_names (trees_of (out-Node n).children.items)
    → is_node_name (out-Node (get_or (out-Node n).children.items i d)).name.items ≡ false → has_names (tree_view n) ≡ false
has_names_refused n i d h same refused =
    let xs = (out-Node n).children.items in
    let own = list_all is_property_name (names_of_properties (map property_view (out-Node n).props.items)) in
    has_names_is n
    ∙ ap (λ b. own && b) (sym same ∙ have_names_more xs i d h ∙ ap (λ b. b && has_names (tree_view (get_or xs i d)) && have_names (trees_of (drop (i + 1) xs))) refused)
    ∙ and_false own
