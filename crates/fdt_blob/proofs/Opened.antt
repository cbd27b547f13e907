-- A structure block spells a tree exactly where its items are a tree's and have no double.
use Rattle.std.proofs.Common.{◌≡◌, ℕ, true, false, List, [], refl, sym, ap, ◌∙◌, inl, inr}
use Rattle.std.specs.Prelude.{◌&&◌}
use Rattle.std.proofs.lemmas.List.{append-nil}
use Rattle.std.proofs.lemmas.Bool.{and_parts, and_from, and_cases, true≢false}
use Rattle.fdt_blob.specs.Trees.{Tree, is_valid, is_empty_name, name_of, has_names, within_levels, has_no_double}
use Rattle.fdt_blob.specs.Tokens.{Item, tree_items, end_bytes}
use Rattle.fdt_blob.specs.Blob.{StructureSpells}
use Rattle.fdt_blob.specs.Shape.{is_shape, has_names_apart}
use Rattle.fdt_blob.specs.Cut.{HasRead}
use Rattle.fdt_blob.specs.Places.{SpellsTree}
use Rattle.fdt_blob.proofs.ShapeOf.{IsRoot, shape_of_tree, tree_of_shape}
use Rattle.fdt_blob.proofs.ApartItems.{apart_tree}
use Rattle.fdt_blob.proofs.Cutting.{items_of_block, spells_items}

-- the parts of a valid tree
pub record ValidParts (t : Tree) : Type 0 where
  pub root : IsRoot t
  pub no_double : has_no_double t ≡ true

pub valid_parts : (t : Tree) → is_valid t ≡ true → ValidParts t
valid_parts t h =
    let a = and_parts (is_empty_name (name_of t) && has_names t && within_levels 16 t) (has_no_double t) h in
    let b = and_parts (is_empty_name (name_of t) && has_names t) (within_levels 16 t) a.0 in
    let c = and_parts (is_empty_name (name_of t)) (has_names t) b.0 in
    record { root = record { unnamed = c.0; names = c.1; levels = b.1 }; no_double = a.1 }

pub from_parts : (t : Tree) → ValidParts t → is_valid t ≡ true
from_parts t p = and_from _ _ (and_from _ _ (and_from _ _ p.root.unnamed p.root.names) p.root.levels) p.no_double

-- a tree's items alone
apart_alone : (t : Tree) → has_names_apart (tree_items t) ≡ (has_no_double t && has_names_apart [])
apart_alone t = ap has_names_apart (sym (append-nil (tree_items t))) ∙ apart_tree t []

nothing_apart : has_names_apart [] ≡ true
unfolding has_names_apart
nothing_apart = refl

spells_tree : (strings block : List ℕ) (items : List Item) → HasRead strings block items end_bytes → is_shape items ≡ true → has_names_apart items ≡ true → SpellsTree strings block items
spells_tree strings block items read shape apart =
    let c = tree_of_shape items shape in
    let t = c.whole in
    let p = and_parts (has_no_double t) (has_names_apart []) (sym (ap has_names_apart c.is ∙ apart_alone t) ∙ apart) in
    record { whole = t; spells = spells_items strings block items t read c.is (from_parts t (record { root = c.root; no_double = p.0 })); carries = record { whole = c.is } }

no_shape : (strings block : List ℕ) (items : List Item) → HasRead strings block items end_bytes → is_shape items ≡ false → (t : Tree) → StructureSpells strings block t → ⊥
no_shape strings block items read shape t s =
    let p = valid_parts t s.valid in
    true≢false (sym (shape_of_tree t p.root) ∙ ap is_shape (sym (items_of_block strings block items t read s)) ∙ shape)

not_apart : (strings block : List ℕ) (items : List Item) → HasRead strings block items end_bytes → has_names_apart items ≡ false → (t : Tree) → StructureSpells strings block t → ⊥
not_apart strings block items read apart t s =
    let p = valid_parts t s.valid in
    true≢false (sym (apart_alone t ∙ and_from (has_no_double t) (has_names_apart []) p.no_double nothing_apart) ∙ ap has_names_apart (sym (items_of_block strings block items t read s)) ∙ apart)

pub tree_spelled : (strings block : List ℕ) (items : List Item) → HasRead strings block items end_bytes → (is_shape items && has_names_apart items) ≡ true → SpellsTree strings block items
tree_spelled strings block items read both =
    let p = and_parts (is_shape items) (has_names_apart items) both in
    spells_tree strings block items read p.0 p.1

pub no_tree_spelled : (strings block : List ℕ) (items : List Item) → HasRead strings block items end_bytes → (is_shape items && has_names_apart items) ≡ false → (t : Tree) → StructureSpells strings block t → ⊥
no_tree_spelled strings block items read not_both =
    elim (and_cases (is_shape items) (has_names_apart items) not_both) [
      | inl shape ↦ no_shape strings block items read shape
      | inr apart ↦ not_apart strings block items read apart
    ]
