-- Items are those of one tree, and bytes spell one tree.
use Rattle.std.proofs.Common.{◌≡◌, ℕ, List, [], ◌∷◌, ◌++◌, refl, sym, ap, ◌∙◌}
use Rattle.std.proofs.lemmas.List.{append-nil}
use Rattle.fdt_blob.specs.declared.tree.FdtPlace.{FdtPlace}
use Rattle.fdt_blob.specs.declared.tree.FdtPlace.TheVariants.{Header, Reservations, Structure}
use Rattle.fdt_blob.specs.Trees.{Property, Tree, Trees, node, no_trees, tree}
use Rattle.fdt_blob.specs.Tokens.{Item, begins, holds, ends, property_item, tree_items, trees_items, items_of}
use Rattle.fdt_blob.specs.Blob.{Spells, BreaksAt, bytes_of, strings_block}
use Rattle.fdt_blob.specs.Places.{IsTreeAt}
use Rattle.fdt_blob.proofs.TreeItems.{body, tree_then, trees_then}
use Rattle.fdt_blob.proofs.Cutting.{same_tokens}

head_is : {A : Type 0} (x y : A) (xs ys : List A) → x ∷ xs ≡ y ∷ ys → x ≡ y
head_is x y xs ys e = cc

tail_is : {A : Type 0} (x y : A) (xs ys : List A) → x ∷ xs ≡ y ∷ ys → xs ≡ ys
tail_is x y xs ys e = cc

name_is : (n m : List ℕ) → begins n ≡ begins m → n ≡ m
name_is n m e = cc

not_begun : (n : List ℕ) → ends ≡ begins n → ⊥
not_begun n e = cc

not_held : (n v : List ℕ) → ends ≡ holds n v → ⊥
not_held n v e = cc

begun_not_held : (m n v : List ℕ) → begins m ≡ holds n v → ⊥
begun_not_held m n v e = cc

held_name : (n m v w : List ℕ) → holds n v ≡ holds m w → n ≡ m
held_name n m v w e = cc

held_value : (n m v w : List ℕ) → holds n v ≡ holds m w → v ≡ w
held_value n m v w e = cc

property_is : (p q : Property) → property_item p ≡ property_item q → p ≡ q
property_is p q e =
    ap (λ (n : List ℕ). record { name = n; value = p.value }) (held_name p.name q.name p.value q.value e)
    ∙ ap (λ (v : List ℕ). record { name = q.name; value = v }) (held_value p.name q.name p.value q.value e)

-- behind the properties stands no property
nothing_held : (cs : Trees) (rest items : List Item) (p : Property) → trees_items cs ++ (ends ∷ rest) ≡ property_item p ∷ items → ⊥
nothing_held no_trees rest items p e = not_held p.name p.value (head_is ends (property_item p) rest items e)
nothing_held (tree (node name ps cs) ts) rest items p e =
    begun_not_held name p.name p.value (head_is (begins name) (property_item p) (body ps cs (trees_items ts ++ (ends ∷ rest))) items
    (sym (trees_then (node name ps cs) ts (ends ∷ rest) ∙ tree_then name ps cs (trees_items ts ++ (ends ∷ rest))) ∙ e))

-- one list of properties, and then the same items
pub record SameProperties (ps qs : List Property) (a b : List Item) : Type 0 where
  pub properties : ps ≡ qs
  pub behind : a ≡ b

same_properties : (ps qs : List Property) (cs ds : Trees) (a b : List Item) → body ps cs a ≡ body qs ds b → SameProperties ps qs (trees_items cs ++ (ends ∷ a)) (trees_items ds ++ (ends ∷ b))
same_properties [] [] cs ds a b e = record { properties = refl; behind = e }
same_properties [] (q ∷ qs) cs ds a b e = absurd (nothing_held cs a (body qs ds b) q e)
same_properties (p ∷ ps) [] cs ds a b e = absurd (nothing_held ds b (body ps cs a) p (sym e))
same_properties (p ∷ ps) (q ∷ qs) cs ds a b e =
    let first = property_is p q (head_is (property_item p) (property_item q) (body ps cs a) (body qs ds b) e) in
    let r = same_properties ps qs cs ds a b (tail_is (property_item p) (property_item q) (body ps cs a) (body qs ds b) e) in
    record { properties = ap (λ (x : Property). x ∷ ps) first ∙ ap (λ (xs : List Property). q ∷ xs) r.properties; behind = r.behind }

-- one tree, and then the same items
pub record SameTree (s t : Tree) (a b : List Item) : Type 0 where
  pub whole : s ≡ t
  pub behind : a ≡ b

pub record SameTrees (s t : Trees) (a b : List Item) : Type 0 where
  pub whole : s ≡ t
  pub behind : a ≡ b

mutual
  pub same_tree : (s t : Tree) (a b : List Item) → tree_items s ++ a ≡ tree_items t ++ b → SameTree s t a b
  same_tree (node n ps cs) (node m qs ds) a b e =
      let both : begins n ∷ body ps cs a ≡ begins m ∷ body qs ds b = sym (tree_then n ps cs a) ∙ e ∙ tree_then m qs ds b in
      let names = name_is n m (head_is (begins n) (begins m) (body ps cs a) (body qs ds b) both) in
      let p = same_properties ps qs cs ds a b (tail_is (begins n) (begins m) (body ps cs a) (body qs ds b) both) in
      let c = same_trees cs ds a b p.behind in
      record {
        whole = ap (λ (x : List ℕ). node x ps cs) names ∙ ap (λ (x : List Property). node m x cs) p.properties ∙ ap (λ (x : Trees). node m qs x) c.whole;
        behind = c.behind;
      }

  pub same_trees : (ss ts : Trees) (a b : List Item) → trees_items ss ++ (ends ∷ a) ≡ trees_items ts ++ (ends ∷ b) → SameTrees ss ts a b
  same_trees no_trees no_trees a b e = record { whole = refl; behind = tail_is ends ends a b e }
  same_trees no_trees (tree (node n ps cs) ts) a b e =
      absurd (not_begun n (head_is ends (begins n) a (body ps cs (trees_items ts ++ (ends ∷ b))) (e ∙ trees_then (node n ps cs) ts (ends ∷ b) ∙ tree_then n ps cs (trees_items ts ++ (ends ∷ b)))))
  same_trees (tree (node n ps cs) ss) no_trees a b e =
      absurd (not_begun n (head_is ends (begins n) b (body ps cs (trees_items ss ++ (ends ∷ a))) (sym e ∙ trees_then (node n ps cs) ss (ends ∷ a) ∙ tree_then n ps cs (trees_items ss ++ (ends ∷ a)))))
  same_trees (tree s ss) (tree t ts) a b e =
      let one = same_tree s t (trees_items ss ++ (ends ∷ a)) (trees_items ts ++ (ends ∷ b)) (sym (trees_then s ss (ends ∷ a)) ∙ e ∙ trees_then t ts (ends ∷ b)) in
      let others = same_trees ss ts a b one.behind in
      record { whole = ap (λ (x : Tree). tree x ss) one.whole ∙ ap (λ (x : Trees). tree t x) others.whole; behind = others.behind }

pub one_tree_of_items : (s t : Tree) → tree_items s ≡ tree_items t → s ≡ t
one_tree_of_items s t e = (same_tree s t [] [] (append-nil (tree_items s) ∙ e ∙ sym (append-nil (tree_items t)))).whole

pub one_tree : (blob : List ℕ) (s t : Tree) → Spells blob s → Spells blob t → s ≡ t
one_tree blob s t h g =
    one_tree_of_items s t (sym h.structure.items ∙ ap items_of (same_tokens (bytes_of (strings_block blob) blob) h.structure.tokens g.structure.tokens h.structure.each g.structure.each (sym h.structure.bytes ∙ g.structure.bytes)) ∙ g.structure.items)

pub one_tree_at : (items : List Item) (at : ℕ) (s t : Tree) → IsTreeAt items at s → IsTreeAt items at t → s ≡ t
one_tree_at items at s t h g = (same_tree s t h.rest g.rest (sym h.placed ∙ g.placed)).whole

-- what breaks spells nothing
pub broken : (blob : List ℕ) (place : FdtPlace) (t : Tree) → BreaksAt blob place → Spells blob t → ⊥
broken blob Header t breaks s = breaks s.header
broken blob Reservations t breaks s = breaks.1 s.reservations
broken blob Structure t breaks s = breaks.2 t s.structure

-- one place is the first that breaks
pub one_place : (blob : List ℕ) (p q : FdtPlace) → BreaksAt blob p → BreaksAt blob q → p ≡ q
one_place blob Header Header h g = refl
one_place blob Header Reservations h g = absurd (h g.0)
one_place blob Header Structure h g = absurd (h g.0)
one_place blob Reservations Header h g = absurd (g h.0)
one_place blob Reservations Reservations h g = refl
one_place blob Reservations Structure h g = absurd (h.1 g.1)
one_place blob Structure Header h g = absurd (g h.0)
one_place blob Structure Reservations h g = absurd (g.1 h.1)
one_place blob Structure Structure h g = refl
