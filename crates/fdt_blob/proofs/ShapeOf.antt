-- Items have a tree's shape exactly where they are a tree's.
use Rattle.std.proofs.Common.{◌≡◌, ℕ, suc, ◌+◌, ◌-◌, ◌<◌, ◌≤◌, Bool, true, false, eqb, ltb, List, [], ◌∷◌, ◌++◌, length, map, refl, sym, ap, ◌∙◌, append_assoc, arith, add-one}
use Rattle.std.specs.Prelude.{◌&&◌, not, MatchBool}
use Rattle.std.specs.List.{list_all}
use Rattle.std.proofs.lemmas.List.{append-nil, map-append}
use Rattle.std.proofs.lemmas.Bool.{and_parts, and_from, lt-ltb, ltb-true, true≢false}
use Rattle.fdt_blob.specs.Trees.{Property, Tree, Trees, node, no_trees, tree, name_of, names_of_properties, is_node_name, is_property_name, is_empty_name, has_names, have_names, within_levels, all_within_levels}
use Rattle.fdt_blob.specs.Tokens.{Item, begins, holds, ends, property_item, tree_items, trees_items}
use Rattle.fdt_blob.specs.Shape.{goes_on, is_shape}
use Rattle.fdt_blob.proofs.TreeItems.{body, tree_then, trees_then, not_zero, one_less}

-- ---- one item

begins_on : (d : ℕ) (h : Bool) (name : List ℕ) (items : List Item) → suc d < 16 → is_node_name name ≡ true → goes_on (suc d) h (begins name ∷ items) ≡ goes_on (suc (suc d)) false items
unfolding goes_on
begins_on d h name items lt named = rw (not_zero d, lt-ltb (suc d) 16 lt, named, add-one) refl

holds_on : (d : ℕ) (name value : List ℕ) (items : List Item) → is_property_name name ≡ true → goes_on (suc d) false (holds name value ∷ items) ≡ goes_on (suc d) false items
unfolding goes_on
holds_on d name value items named = rw (not_zero d, named) refl

ends_on : (d : ℕ) (h : Bool) (items : List Item) → goes_on (suc d) h (ends ∷ items) ≡ goes_on d true items
unfolding goes_on
ends_on d h items = rw (not_zero d, one_less d) refl

hold_on : (d : ℕ) (ps : List Property) (items : List Item) → list_all is_property_name (names_of_properties ps) ≡ true → goes_on (suc d) false (map property_item ps ++ items) ≡ goes_on (suc d) false items
hold_on d [] items named = refl
hold_on d (p ∷ ps) items named =
    let parts = and_parts (is_property_name p.name) (list_all is_property_name (names_of_properties ps)) named in
    holds_on d p.name p.value (map property_item ps ++ items) parts.0 ∙ hold_on d ps items parts.1

-- ---- a tree has the shape

mutual
  tree_on : (t : Tree) (d : ℕ) (h : Bool) (rest : List Item) → is_node_name (name_of t) ≡ true → has_names t ≡ true → within_levels (16 - suc d) t ≡ true → goes_on (suc d) h (tree_items t ++ rest) ≡ goes_on (suc d) true rest
  tree_on (node name ps cs) d h rest named names levels =
      let n = and_parts (list_all is_property_name (names_of_properties ps)) (have_names cs) names in
      let l = and_parts (ltb 0 (16 - suc d)) (all_within_levels (16 - suc d - 1) cs) levels in
      let room : 0 < 16 - suc d = ltb-true 0 (16 - suc d) l.0 in
      let less : 16 - suc d - 1 ≡ 16 - suc (suc d) = omega arith in
      ap (goes_on (suc d) h) (tree_then name ps cs rest) ∙ begins_on d h name (body ps cs rest) (omega arith) named
      ∙ hold_on (suc d) ps (trees_items cs ++ (ends ∷ rest)) n.0 ∙ trees_on cs (suc d) false rest n.1 (rw less at l.1)

  trees_on : (ts : Trees) (d : ℕ) (h : Bool) (rest : List Item) → have_names ts ≡ true → all_within_levels (16 - suc d) ts ≡ true → goes_on (suc d) h (trees_items ts ++ (ends ∷ rest)) ≡ goes_on d true rest
  trees_on no_trees d h rest names levels = ends_on d h rest
  trees_on (tree t ts) d h rest names levels =
      let n = and_parts (is_node_name (name_of t) && has_names t) (have_names ts) names in
      let m = and_parts (is_node_name (name_of t)) (has_names t) n.0 in
      let l = and_parts (within_levels (16 - suc d) t) (all_within_levels (16 - suc d) ts) levels in
      ap (goes_on (suc d) h) (trees_then t ts (ends ∷ rest)) ∙ tree_on t d h (trees_items ts ++ (ends ∷ rest)) m.0 m.1 l.0 ∙ trees_on ts d true rest n.1 l.1

-- a root's names and levels keep the rules
pub record IsRoot (t : Tree) : Type 0 where
  pub unnamed : is_empty_name (name_of t) ≡ true
  pub names : has_names t ≡ true
  pub levels : within_levels 16 t ≡ true

no_more : goes_on 0 true [] ≡ true
unfolding goes_on
no_more = refl

pub shape_of_tree : (t : Tree) → IsRoot t → is_shape (tree_items t) ≡ true
shape_of_tree (node name ps cs) r =
    let n = and_parts (list_all is_property_name (names_of_properties ps)) (have_names cs) r.names in
    and_from (is_empty_name name) (goes_on 1 false (map property_item ps ++ (trees_items cs ++ ends ∷ []))) r.unnamed
    (hold_on 0 ps (trees_items cs ++ ends ∷ []) n.0 ∙ trees_on cs 0 false [] n.1 r.levels ∙ no_more)

-- ---- what has the shape is a tree

-- A node that has begun and not ended, with what it has so far.
pub record Level : Type 0 where
  pub name : List ℕ
  pub properties : List Property
  pub children : Trees

abbrev pub level_items : Level → List Item
level_items l = begins l.name ∷ (map property_item l.properties ++ trees_items l.children)

-- the items of the nodes that have begun, the innermost first in the list
abbrev pub opened : List Level → List Item
opened [] = []
opened (l ∷ ls) = opened ls ++ level_items l

-- the name of a node within others, or of the root
abbrev pub name_fits : List Level → List ℕ → Bool
name_fits [] name = is_empty_name name
name_fits (l ∷ ls) name = is_node_name name

-- what a node on level d has so far keeps the rules
pub record LevelFits (d : ℕ) (l : Level) : Type 0 where
  pub deep : d ≤ 16
  pub properties : list_all is_property_name (names_of_properties l.properties) ≡ true
  pub children : have_names l.children ≡ true
  pub levels : all_within_levels (16 - d) l.children ≡ true

abbrev pub AreLevels : List Level → Type 0
AreLevels [] = Unit {0}
AreLevels (l ∷ ls) = LevelFits (suc (length ls)) l × (name_fits ls l.name ≡ true) × AreLevels ls

-- a tree behind others
abbrev with_tree : Trees → Tree → Trees
with_tree no_trees t = tree t no_trees
with_tree (tree s ts) t = tree s (with_tree ts t)

items_with_tree : (ts : Trees) (t : Tree) → trees_items (with_tree ts t) ≡ trees_items ts ++ tree_items t
items_with_tree no_trees t = append-nil (tree_items t)
items_with_tree (tree s ts) t = ap (λ (is : List Item). tree_items s ++ is) (items_with_tree ts t) ∙ sym (append_assoc (tree_items s) (trees_items ts) (tree_items t))

names_with_tree : (ts : Trees) (t : Tree) → have_names ts ≡ true → is_node_name (name_of t) ≡ true → has_names t ≡ true → have_names (with_tree ts t) ≡ true
names_with_tree no_trees t h named names = and_from (is_node_name (name_of t) && has_names t) true (and_from _ _ named names) refl
names_with_tree (tree s ts) t h named names =
    let p = and_parts (is_node_name (name_of s) && has_names s) (have_names ts) h in
    and_from (is_node_name (name_of s) && has_names s) (have_names (with_tree ts t)) p.0 (names_with_tree ts t p.1 named names)

levels_with_tree : (n : ℕ) (ts : Trees) (t : Tree) → all_within_levels n ts ≡ true → within_levels n t ≡ true → all_within_levels n (with_tree ts t) ≡ true
levels_with_tree n no_trees t h fits = and_from (within_levels n t) true fits refl
levels_with_tree n (tree s ts) t h fits =
    let p = and_parts (within_levels n s) (all_within_levels n ts) h in
    and_from (within_levels n s) (all_within_levels n (with_tree ts t)) p.0 (levels_with_tree n ts t p.1 fits)

property_with : (ps : List Property) (p : Property) → list_all is_property_name (names_of_properties ps) ≡ true → is_property_name p.name ≡ true → list_all is_property_name (names_of_properties (ps ++ p ∷ [])) ≡ true
property_with [] p h named = and_from (is_property_name p.name) true named refl
property_with (q ∷ qs) p h named =
    let parts = and_parts (is_property_name q.name) (list_all is_property_name (names_of_properties qs)) h in
    and_from (is_property_name q.name) (list_all is_property_name (names_of_properties (qs ++ p ∷ []))) parts.0 (property_with qs p parts.1 named)

-- a node that has ended
abbrev ended : Level → Tree
ended l = node l.name l.properties l.children

abbrev with_child : Level → Tree → Level
with_child l t = record l { children = with_tree l.children t }

abbrev with_property : Level → Property → Level
with_property l p = record l { properties = l.properties ++ p ∷ [] }

abbrev new_level : List ℕ → Level
new_level name = record { name = name; properties = []; children = no_trees }

-- the items of levels, one item on
opened_begins : (ls : List Level) (name : List ℕ) → opened (new_level name ∷ ls) ≡ opened ls ++ begins name ∷ []
opened_begins ls name = refl

items_of_end : (l : Level) → tree_items (ended l) ≡ level_items l ++ ends ∷ []
items_of_end l = ap (λ (is : List Item). begins l.name ∷ is) (sym (append_assoc (map property_item l.properties) (trees_items l.children) (ends ∷ [])))

level_holds : (name : List ℕ) (ps : List Property) (cs : Trees) (p : Property) → cs ≡ no_trees → level_items (record { name = name; properties = ps ++ p ∷ []; children = cs }) ≡ level_items (record { name = name; properties = ps; children = cs }) ++ property_item p ∷ []
level_holds name ps cs p none = rw none (ap (λ (is : List Item). begins name ∷ is)
    (append-nil (map property_item (ps ++ p ∷ [])) ∙ map-append property_item ps (p ∷ []) ∙ ap (λ (is : List Item). is ++ property_item p ∷ []) (sym (append-nil (map property_item ps)))))

level_ends : (l k : Level) → level_items (with_child k (ended l)) ≡ level_items k ++ (level_items l ++ ends ∷ [])
level_ends l k =
    ap (λ (is : List Item). begins k.name ∷ is)
    (ap (λ (is : List Item). map property_item k.properties ++ is) (items_with_tree k.children (ended l) ∙ ap (λ (is : List Item). trees_items k.children ++ is) (items_of_end l))
    ∙ sym (append_assoc (map property_item k.properties) (trees_items k.children) (level_items l ++ ends ∷ [])))

opened_holds : (ls : List Level) (l : Level) (p : Property) → l.children ≡ no_trees → opened (with_property l p ∷ ls) ≡ opened (l ∷ ls) ++ property_item p ∷ []
opened_holds ls l p none =
    ap (λ (is : List Item). opened ls ++ is) (level_holds l.name l.properties l.children p none) ∙ sym (append_assoc (opened ls) (level_items l) (property_item p ∷ []))

opened_ends : (ls : List Level) (l k : Level) → opened (with_child k (ended l) ∷ ls) ≡ opened (l ∷ k ∷ ls) ++ ends ∷ []
opened_ends ls l k =
    ap (λ (is : List Item). opened ls ++ is) (level_ends l k) ∙ sym (append_assoc (opened ls) (level_items k) (level_items l ++ ends ∷ []))
    ∙ sym (append_assoc (opened ls ++ level_items k) (level_items l) (ends ∷ []))

-- a child's children rule out more properties
abbrev pub HasChild : Bool → Level → Type 0
HasChild h l = MatchBool h (Unit {0}) (l.children ≡ no_trees)

-- the tree that items complete
pub record Completes (before items : List Item) : Type 0 where
  pub whole : Tree
  pub is : before ++ items ≡ tree_items whole
  pub root : IsRoot whole

-- one item more
completes_on : (before after : List Item) (item : Item) (items : List Item) → after ≡ before ++ item ∷ [] → Completes after items → Completes before (item ∷ items)
completes_on before after item items e c = record { whole = c.whole; is = sym (append_assoc before (item ∷ []) items) ∙ ap (λ (is : List Item). is ++ items) (sym e) ∙ c.is; root = c.root }

at_end : (items : List Item) → goes_on 0 true items ≡ true → items ≡ []
unfolding goes_on
at_end [] h = refl
at_end (begins name ∷ items) h = absurd (true≢false (sym h))
at_end (holds name value ∷ items) h = absurd (true≢false (sym h))
at_end (ends ∷ items) h = absurd (true≢false (sym h))

never : (d : ℕ) (h : Bool) → goes_on (suc d) h [] ≡ true → ⊥
unfolding goes_on
never d h e = true≢false (sym e ∙ not_zero d)

-- what a test that passed says of the first item
begin_fits : (d : ℕ) (h : Bool) (name : List ℕ) (items : List Item) → goes_on (suc d) h (begins name ∷ items) ≡ true → (suc d < 16) × (is_node_name name ≡ true) × (goes_on (suc (suc d)) false items ≡ true)
unfolding goes_on
begin_fits d h name items e =
    let a = and_parts (not (eqb (suc d) 0)) (ltb (suc d) 16 && (is_node_name name && goes_on (suc d + 1) false items)) e in
    let b = and_parts (ltb (suc d) 16) (is_node_name name && goes_on (suc d + 1) false items) a.1 in
    let c = and_parts (is_node_name name) (goes_on (suc d + 1) false items) b.1 in
    (ltb-true (suc d) 16 b.0, c.0, rw add-one at c.1)

hold_fits : (d : ℕ) (name value : List ℕ) (items : List Item) → goes_on (suc d) false (holds name value ∷ items) ≡ true → (is_property_name name ≡ true) × (goes_on (suc d) false items ≡ true)
unfolding goes_on
hold_fits d name value items e =
    let a = and_parts (not (eqb (suc d) 0)) (is_property_name name && goes_on (suc d) false items) e in
    and_parts (is_property_name name) (goes_on (suc d) false items) a.1

no_property_behind : (d : ℕ) (name value : List ℕ) (items : List Item) → goes_on (suc d) true (holds name value ∷ items) ≡ false
unfolding goes_on
no_property_behind d name value items = rw (not_zero d) refl

pub completed : (items : List Item) (h : Bool) (l : Level) (ls : List Level) → AreLevels (l ∷ ls) → HasChild h l → goes_on (suc (length ls)) h items ≡ true → Completes (opened (l ∷ ls)) items
completed [] h l ls fits child e = absurd (never (length ls) h e)
completed (begins name ∷ items) h l ls fits child e =
    let p = begin_fits (length ls) h name items e in
    completes_on (opened (l ∷ ls)) (opened (new_level name ∷ l ∷ ls)) (begins name) items (opened_begins (l ∷ ls) name)
    (completed items false (new_level name) (l ∷ ls) (record { deep = omega arith; properties = refl; children = refl; levels = refl }, p.1, fits) refl p.2)
completed (holds name value ∷ items) true l ls fits child e = absurd (true≢false (sym e ∙ no_property_behind (length ls) name value items))
completed (holds name value ∷ items) false l ls fits child e =
    let p = hold_fits (length ls) name value items e in
    let q : Property = record { name = name; value = value } in
    completes_on (opened (l ∷ ls)) (opened (with_property l q ∷ ls)) (holds name value) items (opened_holds ls l q child)
    (completed items false (with_property l q) ls
    (record { deep = fits.0.deep; properties = property_with l.properties q fits.0.properties p.0; children = fits.0.children; levels = fits.0.levels }, fits.1, fits.2) child p.1)
completed (ends ∷ items) h l [] fits child e =
    let rest = at_end items (sym (ends_on 0 h items) ∙ e) in
    record {
      whole = ended l;
      is = ap (λ (is : List Item). level_items l ++ ends ∷ is) rest ∙ sym (items_of_end l);
      root = record { unnamed = fits.1; names = and_from _ _ fits.0.properties fits.0.children; levels = fits.0.levels };
    }
completed (ends ∷ items) h l (k ∷ ls) fits child e =
    let inner = fits.0 in
    let outer = fits.2 in
    let deep : suc (suc (length ls)) ≤ 16 = inner.deep in
    let room : 0 < 16 - suc (length ls) = omega arith in
    let less : 16 - suc (suc (length ls)) ≡ 16 - suc (length ls) - 1 = omega arith in
    let levels : within_levels (16 - suc (length ls)) (ended l) ≡ true = and_from (ltb 0 (16 - suc (length ls))) (all_within_levels (16 - suc (length ls) - 1) l.children) (lt-ltb _ _ room) (rw less at inner.levels) in
    completes_on (opened (l ∷ k ∷ ls)) (opened (with_child k (ended l) ∷ ls)) ends items (opened_ends ls l k)
    (completed items true (with_child k (ended l)) ls (
      record {
        deep = outer.0.deep;
        properties = outer.0.properties;
        children = names_with_tree k.children (ended l) outer.0.children fits.1 (and_from _ _ inner.properties inner.children);
        levels = levels_with_tree (16 - suc (length ls)) k.children (ended l) outer.0.levels levels;
      },
      outer.1,
      outer.2,
    ) tt (sym (ends_on (suc (length ls)) h items) ∙ e))

-- items that have the shape are a tree's
pub tree_of_shape : (items : List Item) → is_shape items ≡ true → Completes [] items
tree_of_shape [] e = absurd (true≢false (sym e))
tree_of_shape (begins name ∷ items) e =
    let p = and_parts (is_empty_name name) (goes_on 1 false items) e in
    let c = completed items false (new_level name) [] (record { deep = omega arith; properties = refl; children = refl; levels = refl }, p.0, tt) refl p.1 in
    record { whole = c.whole; is = c.is; root = c.root }
tree_of_shape (holds name value ∷ items) e = absurd (true≢false (sym e))
tree_of_shape (ends ∷ items) e = absurd (true≢false (sym e))
