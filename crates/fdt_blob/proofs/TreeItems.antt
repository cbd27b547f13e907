-- The items of a tree, with others behind them, and the walks over them.
use Rattle.std.proofs.Common.{◌≡◌, ℕ, suc, ◌+◌, ◌-◌, false, cond, eqb, List, [], ◌∷◌, ◌++◌, length, map, Some, None, refl, ap, ◌∙◌, append_assoc, arith, add-one}
use Rattle.std.proofs.lemmas.List.{length-append, length-map}
use Rattle.std.proofs.lemmas.Bool.{ne_eqb}
use Rattle.fdt_blob.specs.Trees.{Property, Tree, Trees, node, no_trees, tree, names_of, names_of_properties, value_in, same_name}
use Rattle.fdt_blob.specs.Tokens.{Item, begins, ends, property_item, tree_items, trees_items}
use Rattle.fdt_blob.specs.Shape.{property_names, child_names}
use Rattle.fdt_blob.specs.Places.{value_from}

-- what stands behind the begin of a node
abbrev pub body : List Property → Trees → List Item → List Item
body ps cs rest = map property_item ps ++ (trees_items cs ++ (ends ∷ rest))

pub tree_then : (name : List ℕ) (ps : List Property) (cs : Trees) (rest : List Item) → tree_items (node name ps cs) ++ rest ≡ begins name ∷ body ps cs rest
tree_then name ps cs rest =
    ap (λ (is : List Item). begins name ∷ is)
    (append_assoc (map property_item ps) (trees_items cs ++ ends ∷ []) rest ∙ ap (λ (is : List Item). map property_item ps ++ is) (append_assoc (trees_items cs) (ends ∷ []) rest))

pub trees_then : (t : Tree) (ts : Trees) (rest : List Item) → trees_items (tree t ts) ++ rest ≡ tree_items t ++ (trees_items ts ++ rest)
trees_then t ts rest = append_assoc (tree_items t) (trees_items ts) rest

pub length-tree_items : (name : List ℕ) (ps : List Property) (cs : Trees) → length (tree_items (node name ps cs)) ≡ 2 + length ps + length (trees_items cs)
length-tree_items name ps cs =
    omega (arith, length-append (map property_item ps) (trees_items cs ++ ends ∷ []), length-append (trees_items cs) (ends ∷ []), length-map ps property_item)

pub not_zero : (d : ℕ) → eqb (suc d) 0 ≡ false
not_zero d = ne_eqb (suc d) 0 (λ e. omega arith)

pub one_less : (d : ℕ) → suc d - 1 ≡ d
one_less d = omega arith

-- ---- the names of properties

pub no_properties : (cs : Trees) (rest : List Item) → property_names (trees_items cs ++ (ends ∷ rest)) ≡ []
unfolding property_names
no_properties no_trees rest = refl
no_properties (tree (node name ps cs) ts) rest = refl

pub property_names-body : (ps : List Property) (cs : Trees) (rest : List Item) → property_names (body ps cs rest) ≡ names_of_properties ps
unfolding property_names
property_names-body [] cs rest = no_properties cs rest
property_names-body (p ∷ ps) cs rest = ap (λ (ns : List (List ℕ)). p.name ∷ ns) (property_names-body ps cs rest)

-- ---- the names of children

names_begin : (d : ℕ) (name : List ℕ) (items : List Item) → child_names (suc d) (begins name ∷ items) ≡ child_names (suc (suc d)) items
unfolding child_names
names_begin d name items = rw (not_zero d, add-one) refl

names_end : (d : ℕ) (items : List Item) → child_names (suc d) (ends ∷ items) ≡ child_names d items
unfolding child_names
names_end d items = rw (not_zero d, one_less d) refl

names_hold : (d : ℕ) (ps : List Property) (items : List Item) → child_names d (map property_item ps ++ items) ≡ child_names d items
unfolding child_names
names_hold d [] items = refl
names_hold d (p ∷ ps) items = names_hold d ps items

mutual
  names_past : (t : Tree) (d : ℕ) (rest : List Item) → child_names (suc d) (tree_items t ++ rest) ≡ child_names (suc d) rest
  names_past (node name ps cs) d rest =
      ap (child_names (suc d)) (tree_then name ps cs rest) ∙ names_begin d name (body ps cs rest) ∙ names_hold (suc (suc d)) ps (trees_items cs ++ (ends ∷ rest))
      ∙ names_past_all cs (suc d) (ends ∷ rest) ∙ names_end (suc d) rest

  names_past_all : (ts : Trees) (d : ℕ) (rest : List Item) → child_names (suc d) (trees_items ts ++ rest) ≡ child_names (suc d) rest
  names_past_all no_trees d rest = refl
  names_past_all (tree t ts) d rest = ap (child_names (suc d)) (trees_then t ts rest) ∙ names_past t d (trees_items ts ++ rest) ∙ names_past_all ts d rest

-- a child's items at the top
names_child : (name : List ℕ) (ps : List Property) (cs : Trees) (rest : List Item) → child_names 0 (tree_items (node name ps cs) ++ rest) ≡ name ∷ child_names 0 rest
unfolding child_names
names_child name ps cs rest =
    ap (child_names 0) (tree_then name ps cs rest)
    ∙ ap (λ (ns : List (List ℕ)). name ∷ ns) (names_hold 1 ps (trees_items cs ++ (ends ∷ rest)) ∙ names_past_all cs 0 (ends ∷ rest) ∙ names_end 0 rest)

pub names_of_children : (ts : Trees) (rest : List Item) → child_names 0 (trees_items ts ++ (ends ∷ rest)) ≡ names_of ts
names_of_children no_trees rest = unfold child_names in refl
names_of_children (tree (node name ps cs) ts) rest =
    ap (child_names 0) (trees_then (node name ps cs) ts (ends ∷ rest)) ∙ names_child name ps cs (trees_items ts ++ (ends ∷ rest))
    ∙ ap (λ (ns : List (List ℕ)). name ∷ ns) (names_of_children ts rest)

pub child_names-body : (ps : List Property) (cs : Trees) (rest : List Item) → child_names 0 (body ps cs rest) ≡ names_of cs
child_names-body ps cs rest = names_hold 0 ps (trees_items cs ++ (ends ∷ rest)) ∙ names_of_children cs rest

-- ---- the value of a property

no_value : (name : List ℕ) (cs : Trees) (rest : List Item) → value_from name (trees_items cs ++ (ends ∷ rest)) ≡ None
unfolding value_from
no_value name no_trees rest = refl
no_value name (tree (node other ps cs) ts) rest = refl

pub value_from-body : (name : List ℕ) (ps : List Property) (cs : Trees) (rest : List Item) → value_from name (body ps cs rest) ≡ value_in name ps
unfolding value_from
value_from-body name [] cs rest = no_value name cs rest
value_from-body name (p ∷ ps) cs rest = ap (cond (same_name p.name name) (Some p.value)) (value_from-body name ps cs rest)
