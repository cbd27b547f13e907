-- A word's last bit.
use Rattle.std.proofs.Common.{◌≡◌, ℕ, ◌+◌, ◌*◌, ◌/◌, ◌%◌, ap, ◌∙◌, arith, bit_or, bit_and}
use Rattle.std.proofs.lemmas.Nat.{or_shifted, or_block, or_disjoint, and_le_r}

or_zero : (n : ℕ) → bit_or n 0 ≡ n
or_zero n = let le = and_le_r n 0 in let none : bit_and n 0 ≡ 0 = omega arith in omega (arith, or_disjoint n 0 none)

pub or_one_even : (n : ℕ) → n % 2 ≡ 0 → bit_or n 1 ≡ n + 1
or_one_even n e = let k : ℕ = n / 2 in let is : n ≡ k * 2 = omega arith in let t : bit_or (k * 2) 1 ≡ k * 2 + 1 = or_shifted k 1 1 (omega arith) in
    ap (λ (m : ℕ). bit_or m 1) is ∙ omega arith

pub or_one_odd : (n : ℕ) → n % 2 ≡ 1 → bit_or n 1 ≡ n
or_one_odd n e = let k : ℕ = n / 2 in let is : n ≡ k * 2 + 1 = omega arith in
    let t : bit_or (k * 2 + 1) 1 ≡ bit_or k 0 * 2 + 1 = or_block 1 k 0 1 1 (omega arith) (omega arith) in
    ap (λ (m : ℕ). bit_or m 1) is ∙ omega (arith, or_zero k)
