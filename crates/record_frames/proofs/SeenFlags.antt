-- The flags of the record frames that were read.
use Rattle.std.proofs.Common.{◌≡◌, ◌≢◌, ℕ, ◌<◌, eqb, Bool, true, false, List, [], ◌∷◌, ◌++◌, length, get_or, set, refl, sym, ap, subst, ◌∙◌, ⊎_elim}
use Rattle.std.specs.Prelude.{◌||◌, nat_eq}
use Rattle.std.specs.List.{list_any}
use Rattle.std.proofs.lemmas.List.{map-append, length-set, get_or-set_same, get_or-set_other}
use Rattle.std.proofs.lemmas.List.Folds.{list_any-append}
use Rattle.std.proofs.lemmas.Bool.Decides.{eqb_tells}
use Rattle.ho_base.specs.declared.numbers.Pfn.{Pfn}
use Rattle.ho_events.specs.Lists.{firsts}

-- a flag is set exactly where its frame was read
abbrev pub Flagged : List Bool → List Pfn → Type 0
Flagged flags numbers = (p : ℕ) → p < length flags → get_or flags p false ≡ list_any (nat_eq p) (firsts numbers)

or_true : (b : Bool) → (b || true) ≡ true
or_true true = refl
or_true false = refl

or_false : (b : Bool) → (b || false) ≡ b
or_false true = refl
or_false false = refl

pub flags_push : (flags : List Bool) (numbers new : List Pfn) (p : ℕ) → Flagged flags numbers → p < length flags → new ≡ numbers ++ (record { 0 = p }) ∷ []
    → Flagged (set flags p true) new
flags_push flags numbers new p h lt push q below =
    let within : q < length flags = subst (λ (n : ℕ). q < n) (length-set flags p true) below in
    let before = list_any (nat_eq q) (firsts numbers) in
    let all : list_any (nat_eq q) (firsts new) ≡ (before || (eqb q p || false)) =
    ap (λ (l : List Pfn). list_any (nat_eq q) (firsts l)) push
    ∙ ap (list_any (nat_eq q)) (map-append (λ (r : Pfn). r.0) numbers ((record { 0 = p }) ∷ []))
    ∙ list_any-append (nat_eq q) (firsts numbers) (p ∷ []) in
    ⊎_elim (λ (y : (eqb q p ≡ true) × (q ≡ p)).
    ap (λ (n : ℕ). get_or (set flags p true) n false) y.1 ∙ get_or-set_same flags p true false lt
    ∙ sym (all ∙ ap (λ (b : Bool). before || (b || false)) y.0 ∙ or_true before))
    (λ (n : (eqb q p ≡ false) × (q ≢ p)).
    get_or-set_other flags p q true false n.1 ∙ h q within
    ∙ sym (all ∙ ap (λ (b : Bool). before || (b || false)) n.0 ∙ or_false before))
    (eqb_tells q p)
