-- The four bound records, one after another.
use Rattle.std.proofs.Common.{◌≡◌, ℕ, ◌+◌, ◌*◌, List, [], ◌∷◌, length, map, get_or, Option, None, refl, subst, arith}
use Rattle.ho_base.specs.declared.numbers.Pfn.{Pfn}
use Rattle.phys_frames.specs.Memory.{FolioValue}
use Rattle.kho_writer.specs.Entry.{number_at}
use Rattle.kho_writer.specs.Layout.{Puts, one, bound_part, bounds_part}
use Rattle.kho_writer.proofs.Steps.{then_puts}

-- the four that there may be
abbrev pub four : List (Option Pfn) → List (Option ℕ)
four xs = number_at (get_or xs 0 None) ∷ number_at (get_or xs 1 None) ∷ number_at (get_or xs 2 None) ∷ number_at (get_or xs 3 None) ∷ []

pub four_are : (xs : List (Option Pfn)) → length xs ≡ 4 → four xs ≡ map number_at xs
four_are [] e = absurd (omega (arith, e))
four_are (a ∷ []) e = absurd (omega (arith, e))
four_are (a ∷ b ∷ []) e = absurd (omega (arith, e))
four_are (a ∷ b ∷ c ∷ []) e = absurd (omega (arith, e))
four_are (a ∷ b ∷ c ∷ d ∷ []) e = refl
four_are (a ∷ b ∷ c ∷ d ∷ x ∷ xs) e = absurd (omega (arith, e))

-- a bound record before others
pub one_bound : (f g h : FolioValue) (base j k n : ℕ) (b : Option ℕ) (bs : List (Option ℕ)) → length f.bytes ≡ 4096 → k ≡ j + one b
    → Puts f (base + 20 * j) (bound_part j b) g (base + 20 * k) → Puts g (base + 20 * k) (bounds_part k bs) h n → Puts f (base + 20 * j) (bounds_part j (b ∷ bs)) h n
one_bound f g h base j k n b bs size e p q =
    then_puts f g h (base + 20 * j) (base + 20 * k) n (bound_part j b) (bounds_part (j + one b) bs) size p
    (subst (λ (m : ℕ). Puts g (base + 20 * k) (bounds_part m bs) h n) e q)

-- the place is the base itself where none stands before
pub at_base : (f g : FolioValue) (base n : ℕ) (bytes : List ℕ) → Puts f (base + 0) bytes g n → Puts f base bytes g n
at_base f g base n bytes p = let e : base + 0 ≡ base = omega arith in subst (λ (m : ℕ). Puts f m bytes g n) e p
