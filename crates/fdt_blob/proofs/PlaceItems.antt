-- A node's items lead to its properties and its children.
use Rattle.std.proofs.Common.{◌≡◌, ℕ, suc, ◌+◌, ◌≤◌, Bool, true, false, cond, List, [], ◌∷◌, ◌++◌, length, map, drop, Option, Some, None, refl, sym, ap, subst, ◌∙◌, arith, inl, inr}
use Rattle.std.specs.Option.{option_map}
use Rattle.std.proofs.lemmas.List.{length-append, length-map, drop-drop, drop_at, drop-map, length-drop}
use Rattle.std.proofs.lemmas.Bool.{cases_Bool}
use Rattle.fdt_blob.specs.declared.items.Item.{Item as Kept}
use Rattle.fdt_blob.specs.Items.{item_view, item_views}
use Rattle.fdt_blob.specs.Trees.{Property, Tree, Trees, node, no_trees, tree, properties_of, children_of, names_of, count_of, value_in, tree_in, same_name}
use Rattle.fdt_blob.specs.Tokens.{Item, begins, ends, property_item, tree_items, trees_items}
use Rattle.fdt_blob.specs.Shape.{property_names, child_names}
use Rattle.fdt_blob.specs.Places.{IsTreeAt, IsNodeAt, IsChildAt, value_from, child_from}
use Rattle.fdt_blob.proofs.TreeItems.{body, tree_then, trees_then, length-tree_items, not_zero, one_less, property_names-body, child_names-body, value_from-body}

-- ---- the place of a child, one item on

from_begin : (name other : List ℕ) (d at : ℕ) (items : List Item) → child_from name (suc d) at (begins other ∷ items) ≡ child_from name (suc (suc d)) (at + 1) items
unfolding child_from
from_begin name other d at items =
    let one_more : suc d + 1 ≡ suc (suc d) = omega arith in
    rw (not_zero d, one_more) refl

from_end : (name : List ℕ) (d at : ℕ) (items : List Item) → child_from name (suc d) at (ends ∷ items) ≡ child_from name d (at + 1) items
unfolding child_from
from_end name d at items = rw (not_zero d, one_less d) refl

from_hold : (name : List ℕ) (d at : ℕ) (ps : List Property) (items : List Item) → child_from name d at (map property_item ps ++ items) ≡ child_from name d (at + length ps) items
unfolding child_from
from_hold name d at [] items = ap (λ k. child_from name d k items) (omega arith)
from_hold name d at (p ∷ ps) items = from_hold name d (at + 1) ps items ∙ ap (λ k. child_from name d k items) (omega arith)

mutual
  from_past : (t : Tree) (name : List ℕ) (d at : ℕ) (rest : List Item) → child_from name (suc d) at (tree_items t ++ rest) ≡ child_from name (suc d) (at + length (tree_items t)) rest
  from_past (node other ps cs) name d at rest =
      ap (child_from name (suc d) at) (tree_then other ps cs rest) ∙ from_begin name other d at (body ps cs rest) ∙ from_hold name (suc (suc d)) (at + 1) ps (trees_items cs ++ (ends ∷ rest))
      ∙ from_past_all cs name (suc d) (at + 1 + length ps) (ends ∷ rest) ∙ from_end name (suc d) (at + 1 + length ps + length (trees_items cs)) rest
      ∙ ap (λ k. child_from name (suc d) k rest) (omega (arith, length-tree_items other ps cs))

  from_past_all : (ts : Trees) (name : List ℕ) (d at : ℕ) (rest : List Item) → child_from name (suc d) at (trees_items ts ++ rest) ≡ child_from name (suc d) (at + length (trees_items ts)) rest
  from_past_all no_trees name d at rest = ap (λ k. child_from name (suc d) k rest) (omega arith)
  from_past_all (tree t ts) name d at rest =
      ap (child_from name (suc d) at) (trees_then t ts rest) ∙ from_past t name d at (trees_items ts ++ rest) ∙ from_past_all ts name d (at + length (tree_items t)) rest
      ∙ ap (λ k. child_from name (suc d) k rest) (omega (arith, length-append (tree_items t) (trees_items ts)))

-- a child with another name is passed
from_child : (name other : List ℕ) (at : ℕ) (ps : List Property) (cs : Trees) (rest : List Item) → same_name other name ≡ false → child_from name 0 at (tree_items (node other ps cs) ++ rest) ≡ child_from name 0 (at + length (tree_items (node other ps cs))) rest
unfolding child_from
from_child name other at ps cs rest differs =
    ap (child_from name 0 at) (tree_then other ps cs rest)
    ∙ ap (λ (b : Bool). cond b (Some at) (child_from name 1 (at + 1) (body ps cs rest))) differs
    ∙ from_hold name 1 (at + 1) ps (trees_items cs ++ (ends ∷ rest))
    ∙ from_past_all cs name 0 (at + 1 + length ps) (ends ∷ rest) ∙ from_end name 0 (at + 1 + length ps + length (trees_items cs)) rest
    ∙ ap (λ k. child_from name 0 k rest) (omega (arith, length-tree_items other ps cs))

from_found : (name other : List ℕ) (at : ℕ) (ps : List Property) (cs : Trees) (rest : List Item) → same_name other name ≡ true → child_from name 0 at (tree_items (node other ps cs) ++ rest) ≡ Some at
unfolding child_from
from_found name other at ps cs rest same =
    ap (child_from name 0 at) (tree_then other ps cs rest) ∙ ap (λ (b : Bool). cond b (Some at) (child_from name 1 (at + 1) (body ps cs rest))) same

from_none : (name : List ℕ) (at : ℕ) (rest : List Item) → child_from name 0 at (ends ∷ rest) ≡ None
unfolding child_from
from_none name at rest = refl

-- ---- what is found is the child

-- a child among some trees is one among more, if none of the others has its name
with_others : (items : List Item) (name : List ℕ) (ts us : Trees) → tree_in name us ≡ tree_in name ts → (o : Option ℕ) → IsChildAt items name ts o → IsChildAt items name us o
with_others items name ts us same None h = same ∙ h
with_others items name ts us same (Some at) h = (h.0, same ∙ h.1, h.2)

child_is : (items : List Item) (name : List ℕ) (ts : Trees) (at : ℕ) (rest : List Item) → drop at items ≡ trees_items ts ++ (ends ∷ rest) → IsChildAt items name ts (child_from name 0 at (trees_items ts ++ (ends ∷ rest)))
child_is items name no_trees at rest e = subst (IsChildAt items name no_trees) (sym (from_none name at rest)) refl
child_is items name (tree (node other ps cs) ts) at rest e =
    let t = node other ps cs in
    let behind = trees_items ts ++ (ends ∷ rest) in
    let size = length (tree_items t) in
    let split : trees_items (tree t ts) ++ (ends ∷ rest) ≡ tree_items t ++ behind = trees_then t ts (ends ∷ rest) in
    elim (cases_Bool (same_name other name)) [
      | inl same ↦
          subst (IsChildAt items name (tree t ts)) (sym (ap (child_from name 0 at) split ∙ from_found name other at ps cs behind same))
          (t, ap (λ (b : Bool). cond b (Some t) (tree_in name ts)) same, record { rest = behind; placed = e ∙ split })
      | inr differs ↦
          let next : drop (at + size) items ≡ behind = sym (drop-drop size at items) ∙ ap (drop size) (e ∙ split) ∙ drop_at (tree_items t) behind size refl in
          subst (IsChildAt items name (tree t ts)) (sym (ap (child_from name 0 at) split ∙ from_child name other at ps cs behind differs))
          (with_others items name ts (tree t ts) (ap (λ (b : Bool). cond b (Some t) (tree_in name ts)) differs) (child_from name 0 (at + size) behind)
          (child_is items name ts (at + size) rest next))
    ]

-- ---- the items that a reader keeps

-- behind a node's begin stands its body
pub record Inner (kept : List Kept) (at : ℕ) (t : Tree) : Type 0 where
  pub rest : List Item
  pub items : item_views (drop (at + 1) kept) ≡ body (properties_of t) (children_of t) rest

pub inner : (kept : List Kept) (at : ℕ) (t : Tree) → IsTreeAt (item_views kept) at t → Inner kept at t
inner kept at (node name ps cs) h = record {
  rest = h.rest;
  items = sym (drop-map item_view (at + 1) kept) ∙ sym (drop-drop 1 at (item_views kept)) ∙ ap (drop 1) (h.placed ∙ tree_then name ps cs h.rest);
}

pub value_is : (kept : List Kept) (at : ℕ) (t : Tree) (name : List ℕ) → IsTreeAt (item_views kept) at t → value_from name (item_views (drop (at + 1) kept)) ≡ value_in name (properties_of t)
value_is kept at t name h = let i = inner kept at t h in ap (value_from name) i.items ∙ value_from-body name (properties_of t) (children_of t) i.rest

pub property_count_is : (kept : List Kept) (at : ℕ) (t : Tree) → IsTreeAt (item_views kept) at t → length (property_names (item_views (drop (at + 1) kept))) ≡ length (properties_of t)
property_count_is kept at t h =
    let i = inner kept at t h in
    ap (λ (is : List Item). length (property_names is)) i.items ∙ ap length (property_names-body (properties_of t) (children_of t) i.rest) ∙ length-map (properties_of t) (λ p. p.name)

length-names_of : (ts : Trees) → length (names_of ts) ≡ count_of ts
length-names_of no_trees = refl
length-names_of (tree t ts) = omega (arith, length-names_of ts)

pub child_count_is : (kept : List Kept) (at : ℕ) (t : Tree) → IsTreeAt (item_views kept) at t → length (child_names 0 (item_views (drop (at + 1) kept))) ≡ count_of (children_of t)
child_count_is kept at t h =
    let i = inner kept at t h in
    ap (λ (is : List Item). length (child_names 0 is)) i.items ∙ ap length (child_names-body (properties_of t) (children_of t) i.rest) ∙ length-names_of (children_of t)

-- a place within the items behind another one
further : (items : List Item) (m : ℕ) (name : List ℕ) (ts : Trees) (o : Option ℕ) → IsChildAt (drop m items) name ts o → IsChildAt items name ts (option_map (λ k. m + k) o)
further items m name ts None h = h
further items m name ts (Some k) h = (h.0, h.1, record { rest = h.2.rest; placed = sym (drop-drop k m items) ∙ h.2.placed })

pub child_at : (kept : List Kept) (at : ℕ) (t : Tree) (name : List ℕ) → IsTreeAt (item_views kept) at t → IsChildAt (item_views kept) name (children_of t) (option_map (λ k. at + 1 + k) (child_from name 0 0 (item_views (drop (at + 1) kept))))
child_at kept at t name h =
    let i = inner kept at t h in
    let ps = properties_of t in
    let ts = children_of t in
    let behind = trees_items ts ++ (ends ∷ i.rest) in
    let whole : drop (at + 1) (item_views kept) ≡ body ps ts i.rest = drop-map item_view (at + 1) kept ∙ i.items in
    let start : child_from name 0 0 (item_views (drop (at + 1) kept)) ≡ child_from name 0 (length ps) behind = ap (child_from name 0 0) i.items ∙ from_hold name 0 0 ps behind ∙ ap (λ k. child_from name 0 k behind) (omega arith) in
    let placed : drop (length ps) (drop (at + 1) (item_views kept)) ≡ behind = ap (drop (length ps)) whole ∙ drop_at (map property_item ps) behind (length ps) (length-map ps property_item) in
    further (item_views kept) (at + 1) name ts (child_from name 0 0 (item_views (drop (at + 1) kept)))
    (subst (IsChildAt (drop (at + 1) (item_views kept)) name ts) (sym start) (child_is (drop (at + 1) (item_views kept)) name ts (length ps) i.rest placed))

-- a node's place is within the items
pub is_within : (kept : List Kept) (at : ℕ) → IsNodeAt (item_views kept) at → at + 1 ≤ length kept
is_within kept at h = within h.tree h.placed
  where
    within : (t : Tree) → IsTreeAt (item_views kept) at t → at + 1 ≤ length kept
    within (node name ps cs) p = omega (arith, ap length (p.placed ∙ tree_then name ps cs p.rest), length-drop at (item_views kept), length-map kept item_view)
