-- The steps of a chain, for the loop that reads it.
use Rattle.std.proofs.Common.{◌≡◌, ℕ, zero, suc, ◌-◌, ◌<◌, cond, eqb, Bool, false, List, [], ◌∷◌, ◌++◌, Option, Some, None, Ok, Err, ap, ◌∙◌, arith}
use Rattle.record_frames.specs.Sheets.{Sheet}
use Rattle.record_frames.specs.Reading.{Front, chain_from, go_on}

sub_suc : (n : ℕ) → n ≡ suc n - 1
sub_suc n = omega arith

pub step_none : {E : Type 0} (read : List (Sheet E) → ℕ → Option (Front E)) (n : ℕ) (earlier : List (Sheet E)) (at : ℕ) → 0 < n → read earlier at ≡ None
    → chain_from read n earlier at ≡ Err at
step_none read zero earlier at h e = absurd (omega (arith, h))
step_none read (suc n) earlier at h e = ap (λ (o : Option (Front _)). go_on earlier at (chain_from read n) o) e

pub step_last : {E : Type 0} (read : List (Sheet E) → ℕ → Option (Front E)) (n : ℕ) (earlier : List (Sheet E)) (at : ℕ) (items : List E) → 0 < n
    → read earlier at ≡ Some (record { next = 0; items = items }) → chain_from read n earlier at ≡ Ok (earlier ++ (record { at = at; items = items }) ∷ [])
step_last read zero earlier at items h e = absurd (omega (arith, h))
step_last read (suc n) earlier at items h e = ap (λ (o : Option (Front _)). go_on earlier at (chain_from read n) o) e

pub step_more : {E : Type 0} (read : List (Sheet E) → ℕ → Option (Front E)) (n : ℕ) (earlier : List (Sheet E)) (at next : ℕ) (items : List E) → 0 < n → eqb next 0 ≡ false
    → read earlier at ≡ Some (record { next = next; items = items })
    → chain_from read n earlier at ≡ chain_from read (n - 1) (earlier ++ (record { at = at; items = items }) ∷ []) next
step_more read zero earlier at next items h f e = absurd (omega (arith, h))
step_more {E = E} read (suc n) earlier at next items h f e =
    let now = earlier ++ (record { at = at; items = items }) ∷ [] in
    ap (λ (o : Option (Front E)). go_on earlier at (chain_from read n) o) e
    ∙ ap (λ (b : Bool). cond b (Ok now) (chain_from read n now next)) f
    ∙ ap (λ (k : ℕ). chain_from read k now next) (sub_suc n)
