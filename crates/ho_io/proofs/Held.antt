-- What a list of named bytes holds under a name.
use Rattle.std.proofs.Common.{◌≡◌, ℕ, suc, ◌+◌, ◌<◌, List, ◌∷◌, length, map, drop, get_or, ap, sym, ◌∙◌, add-one, drop-cons, Some, ◌==◌, String, Vec, string_bytes, if◌then◌else◌}
use Rattle.std.specs.Cmp.Lexicographic.{pointwise}
use Rattle.std.specs.declared.alloc.Global.{Global}
use Rattle.ho_io.specs.Memory.{held_by, named}

-- from this place on, the first pair decides or the pairs behind it do
pub held_from : (name : List ℕ) (pairs : List (String Global × Vec ℕ Global)) (i : ℕ) (pair : String Global × Vec ℕ Global)
    → pair ≡ get_or pairs i pair → i < length pairs
    → held_by name (map named (drop i pairs))
    ≡ (if pointwise ◌==◌ (string_bytes pair.0) name then Some pair.1.items else held_by name (map named (drop (i + 1) pairs)))
unfolding held_by
held_from name pairs i pair e h =
    rw (add-one) (ap (λ xs. held_by name (map named xs)) (drop-cons pairs i pair h ∙ ap (λ p. p ∷ drop (suc i) pairs) (sym e)))
