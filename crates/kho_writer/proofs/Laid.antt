-- The spelling of the handover tree is what is laid out.
use Rattle.std.proofs.Common.{◌≡◌, ℕ, List, [], ◌∷◌, ◌++◌, length, Option, Some, None, refl, sym, ap, ◌∙◌, arith}
use Rattle.std.proofs.lemmas.List.{append_assoc}
use Rattle.ho_base.specs.ShapeRule.{Layout}
use Rattle.fdt_blob.specs.Trees.{Tree}
use Rattle.fdt_blob.specs.Tokens.{word, end_bytes}
use Rattle.fdt_blob.specs.Spelling.{spelling, assembled, structure_of, strings_of, used_names}
use Rattle.record_frames.specs.Rules.{version_1}
use Rattle.kho_laws.specs.Tree.{handover_tree}
use Rattle.kho_writer.specs.Layout.{root_part, luo_part, bounds_part, structure_part, strings_part, front_part}

abbrev tree_with : Layout → ℕ → ℕ → ℕ → Option ℕ → Option ℕ → Option ℕ → Option ℕ → Tree
tree_with shape chunk n h a b c d = handover_tree version_1 shape chunk (record { number = n; header = h; bounds = a ∷ b ∷ c ∷ d ∷ [] })

-- the structure block, grouped as it is spelled
abbrev grouped : Layout → ℕ → ℕ → ℕ → List (Option ℕ) → List ℕ
grouped shape chunk n h bounds = (root_part shape.scratch chunk ++ (luo_part n h ++ (bounds_part 0 bounds ++ (word 2 ++ word 2)))) ++ end_bytes

record Laid (shape : Layout) (chunk n h : ℕ) (a b c d : Option ℕ) : Type 0 where
  structure : structure_of (used_names (tree_with shape chunk n h a b c d)) (tree_with shape chunk n h a b c d) ≡ grouped shape chunk n h (a ∷ b ∷ c ∷ d ∷ [])
  strings : strings_of (used_names (tree_with shape chunk n h a b c d)) ≡ strings_part (a ∷ b ∷ c ∷ d ∷ [])

laid : (shape : Layout) (chunk n h : ℕ) (a b c d : Option ℕ) → Laid shape chunk n h a b c d
laid shape chunk n h None None None None = record { structure = refl; strings = refl }
laid shape chunk n h None None None (Some s) = record { structure = refl; strings = refl }
laid shape chunk n h None None (Some r) None = record { structure = refl; strings = refl }
laid shape chunk n h None None (Some r) (Some s) = record { structure = refl; strings = refl }
laid shape chunk n h None (Some q) None None = record { structure = refl; strings = refl }
laid shape chunk n h None (Some q) None (Some s) = record { structure = refl; strings = refl }
laid shape chunk n h None (Some q) (Some r) None = record { structure = refl; strings = refl }
laid shape chunk n h None (Some q) (Some r) (Some s) = record { structure = refl; strings = refl }
laid shape chunk n h (Some p) None None None = record { structure = refl; strings = refl }
laid shape chunk n h (Some p) None None (Some s) = record { structure = refl; strings = refl }
laid shape chunk n h (Some p) None (Some r) None = record { structure = refl; strings = refl }
laid shape chunk n h (Some p) None (Some r) (Some s) = record { structure = refl; strings = refl }
laid shape chunk n h (Some p) (Some q) None None = record { structure = refl; strings = refl }
laid shape chunk n h (Some p) (Some q) None (Some s) = record { structure = refl; strings = refl }
laid shape chunk n h (Some p) (Some q) (Some r) None = record { structure = refl; strings = refl }
laid shape chunk n h (Some p) (Some q) (Some r) (Some s) = record { structure = refl; strings = refl }

regrouped : (shape : Layout) (chunk n h : ℕ) (bounds : List (Option ℕ)) → grouped shape chunk n h bounds ≡ structure_part shape.scratch chunk n h bounds
regrouped shape chunk n h bounds =
    let root = root_part shape.scratch chunk in
    let luo = luo_part n h in
    let bound = bounds_part 0 bounds in
    let ends = word 2 ++ word 2 in
    append_assoc root (luo ++ (bound ++ ends)) end_bytes
    ∙ ap (λ (x : List ℕ). root ++ x)
    (append_assoc luo (bound ++ ends) end_bytes ∙ ap (λ (x : List ℕ). luo ++ x) (append_assoc bound ends end_bytes))

-- the spelling, with the sizes of the two blocks
spelled : (shape : Layout) (chunk n h : ℕ) (a b c d : Option ℕ) (s t : ℕ) → s ≡ length (structure_part shape.scratch chunk n h (a ∷ b ∷ c ∷ d ∷ []))
    → t ≡ length (strings_part (a ∷ b ∷ c ∷ d ∷ []))
    → front_part s t ++ (structure_part shape.scratch chunk n h (a ∷ b ∷ c ∷ d ∷ []) ++ strings_part (a ∷ b ∷ c ∷ d ∷ [])) ≡ spelling (tree_with shape chunk n h a b c d)
spelled shape chunk n h a b c d s t se te =
    let bounds = a ∷ b ∷ c ∷ d ∷ [] in
    let l = laid shape chunk n h a b c d in
    let same = l.structure ∙ regrouped shape chunk n h bounds in
    let structure = structure_part shape.scratch chunk n h bounds in
    let strings = strings_part bounds in
    (λ i. front_part (se i) (te i) ++ (structure ++ strings))
    ∙ (λ i. assembled (sym same i) (sym l.strings i))

pub entry_is : (shape : Layout) (chunk n h : ℕ) (bounds : List (Option ℕ)) (s t : ℕ) → length bounds ≡ 4 → s ≡ length (structure_part shape.scratch chunk n h bounds)
    → t ≡ length (strings_part bounds)
    → front_part s t ++ (structure_part shape.scratch chunk n h bounds ++ strings_part bounds) ≡ spelling (handover_tree version_1 shape chunk (record { number = n; header = h; bounds = bounds }))
entry_is shape chunk n h [] s t four se te = absurd (omega (arith, four))
entry_is shape chunk n h (a ∷ []) s t four se te = absurd (omega (arith, four))
entry_is shape chunk n h (a ∷ b ∷ []) s t four se te = absurd (omega (arith, four))
entry_is shape chunk n h (a ∷ b ∷ c ∷ []) s t four se te = absurd (omega (arith, four))
entry_is shape chunk n h (a ∷ b ∷ c ∷ d ∷ []) s t four se te = spelled shape chunk n h a b c d s t se te
entry_is shape chunk n h (a ∷ b ∷ c ∷ d ∷ e ∷ bounds) s t four se te = absurd (omega (arith, four))
