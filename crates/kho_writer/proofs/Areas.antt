-- The property of the scratch areas.
use Rattle.std.proofs.Common.{◌≡◌, ℕ, ◌*◌, List, [], ◌∷◌, ◌++◌, length, replicate, refl, sym, ap, ◌∙◌, arith}
use Rattle.std.proofs.lemmas.List.{length-append, append-nil}
use Rattle.std.specs.List.{flat_map}
use Rattle.ho_base.specs.declared.shape.Area.{Area}
use Rattle.fdt_blob.specs.Tokens.{word, padding, padded}
use Rattle.kho_laws.specs.Tree.{area_bytes}
use Rattle.kho_writer.specs.Layout.{valued}

long : (areas : List Area) → length (flat_map area_bytes areas) ≡ 16 * length areas
long [] = refl
long (a ∷ areas) =
    let one : length (area_bytes a) ≡ 16 = refl in
    let rest = long areas in
    length-append (area_bytes a) (flat_map area_bytes areas) ∙ omega (arith, one, rest)

-- bytes whose number is a multiple of 4 have no padding
unpadded : (bytes : List ℕ) (n : ℕ) → length bytes ≡ 16 * n → bytes ≡ padded bytes
unpadded bytes n e =
    let none : padding (length bytes) ≡ 0 = omega (arith, e) in
    sym (append-nil bytes) ∙ ap (λ (k : ℕ). bytes ++ replicate k 0) (sym none)

pub scratch_is : (place : ℕ) (areas : List Area)
    → (word 3 ++ (word (16 * length areas) ++ word place)) ++ flat_map area_bytes areas ≡ valued place (flat_map area_bytes areas)
scratch_is place areas =
    let value = flat_map area_bytes areas in
    let e = long areas in
    let whole = unpadded value (length areas) e in
    λ i. word 3 ++ (word (sym e i) ++ (word place ++ whole i))
