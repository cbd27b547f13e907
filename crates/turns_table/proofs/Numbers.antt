-- Passes that have a number.
use Rattle.std.proofs.Common.{◌≡◌, ℕ, zero, suc, ◌+◌, ◌<◌, List, [], ◌∷◌, length, get_or, refl, subst, arith}
use Rattle.turns_table.specs.Views.{IsMine, weight, numbers, HasNumber, agents}
use Rattle.turns_table.specs.declared.rule.Known.{Known}
use Rattle.turns_table.specs.declared.rule.Role.{Role}
use Rattle.turns_table.specs.declared.rule.Role.TheVariants.{Absent, Spare, Has}

weighs : (q : Role) → IsMine q → weight q ≡ 1
weighs Absent m = absurd m
weighs Spare m = refl
weighs (Has log) m = refl

pub counts : (qs : List Role) (a : ℕ) → IsMine (get_or qs a Absent) → 0 < numbers qs
counts [] a m = absurd m
counts (q ∷ qs) zero m = omega (arith, weighs q m)
counts (q ∷ qs) (suc a) m = omega (arith, counts qs a m)

later : (q : Role) (qs : List Role) → (0 < numbers qs → (a : ℕ) × (a < length qs) × IsMine (get_or qs a Absent)) → 0 < weight q + numbers qs → (a : ℕ) × (a < suc (length qs)) × IsMine (get_or (q ∷ qs) a Absent)
later Absent qs next h = let t = next (omega arith) in (suc t.0, (let l = t.1 in omega arith), t.2)
later Spare qs next h = (zero, omega arith, tt)
later (Has log) qs next h = (zero, omega arith, tt)

finds : (qs : List Role) → 0 < numbers qs → (a : ℕ) × (a < length qs) × IsMine (get_or qs a Absent)
finds [] h = absurd (omega arith)
finds (q ∷ qs) h = later q qs (finds qs) h

pub has_number : {T : Type 0} (v : Known T) → length v.roles ≡ agents → 0 < numbers v.roles → HasNumber v
has_number v wide some_number = let t = finds v.roles some_number in (t.0, subst (λ (n : ℕ). t.0 < n) wide t.1, t.2)
