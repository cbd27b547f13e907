-- The names among a tree's items are apart where the tree has no double.
use Rattle.std.proofs.Common.{◌≡◌, ℕ, Bool, true, false, List, [], ◌∷◌, ◌++◌, map, refl, ap, ◌∙◌}
use Rattle.std.specs.Prelude.{◌&&◌}
use Rattle.fdt_blob.specs.Trees.{Property, Tree, Trees, node, no_trees, tree, all_apart, names_of, names_of_properties, has_no_double, have_no_double}
use Rattle.fdt_blob.specs.Tokens.{Item, begins, ends, property_item, tree_items, trees_items}
use Rattle.fdt_blob.specs.Shape.{has_names_apart}
use Rattle.fdt_blob.proofs.TreeItems.{body, tree_then, trees_then, property_names-body, child_names-body}

-- three tests, grouped in another way
and_right_left : (a b c d : Bool) → (a && (b && (c && d))) ≡ (((a && b) && c) && d)
and_right_left true true c d = refl
and_right_left true false c d = refl
and_right_left false true c d = refl
and_right_left false false c d = refl

and_assoc : (a b c : Bool) → (a && (b && c)) ≡ ((a && b) && c)
and_assoc true b c = refl
and_assoc false b c = refl

apart_hold : (ps : List Property) (items : List Item) → has_names_apart (map property_item ps ++ items) ≡ has_names_apart items
unfolding has_names_apart
apart_hold [] items = refl
apart_hold (p ∷ ps) items = apart_hold ps items

apart_begin : (name : List ℕ) (ps : List Property) (cs : Trees) (rest : List Item) → has_names_apart (begins name ∷ body ps cs rest) ≡ (all_apart (names_of_properties ps) && (all_apart (names_of cs) && has_names_apart (trees_items cs ++ (ends ∷ rest))))
unfolding has_names_apart
apart_begin name ps cs rest =
    rw (property_names-body ps cs rest, child_names-body ps cs rest, apart_hold ps (trees_items cs ++ (ends ∷ rest))) refl

apart_end : (rest : List Item) → has_names_apart (ends ∷ rest) ≡ has_names_apart rest
unfolding has_names_apart
apart_end rest = refl

mutual
  pub apart_tree : (t : Tree) (rest : List Item) → has_names_apart (tree_items t ++ rest) ≡ (has_no_double t && has_names_apart rest)
  apart_tree (node name ps cs) rest =
      ap has_names_apart (tree_then name ps cs rest) ∙ apart_begin name ps cs rest
      ∙ ap (λ b. all_apart (names_of_properties ps) && (all_apart (names_of cs) && b)) (apart_trees cs (ends ∷ rest) ∙ ap (λ b. have_no_double cs && b) (apart_end rest))
      ∙ and_right_left (all_apart (names_of_properties ps)) (all_apart (names_of cs)) (have_no_double cs) (has_names_apart rest)

  pub apart_trees : (ts : Trees) (rest : List Item) → has_names_apart (trees_items ts ++ rest) ≡ (have_no_double ts && has_names_apart rest)
  apart_trees no_trees rest = refl
  apart_trees (tree t ts) rest =
      ap has_names_apart (trees_then t ts rest) ∙ apart_tree t (trees_items ts ++ rest) ∙ ap (λ b. has_no_double t && b) (apart_trees ts rest)
      ∙ and_assoc (has_no_double t) (have_no_double ts) (has_names_apart rest)
