-- Numbers that follow one another.
use Rattle.std.proofs.Common.{◌≡◌, ℕ, zero, suc, ◌+◌, List, ◌∷◌, ◌++◌, ap, ◌∙◌, arith}
use Rattle.std.specs.List.{range_with_len}

-- n numbers, and k more that follow them
pub range_append : (a n k : ℕ) → range_with_len a (n + k) ≡ range_with_len a n ++ range_with_len (a + n) k
range_append a zero k =
    let count : zero + k ≡ k = omega arith in
    let from : a ≡ a + zero = omega arith in
    ap (range_with_len a) count ∙ ap (λ (b : ℕ). range_with_len b k) from
range_append a (suc n) k =
    let count : suc n + k ≡ suc (n + k) = omega arith in
    let from : a + 1 + n ≡ a + suc n = omega arith in
    ap (range_with_len a) count
    ∙ ap (λ (l : List ℕ). a ∷ l) (range_append (a + 1) n k ∙ ap (λ (b : ℕ). range_with_len (a + 1) n ++ range_with_len b k) from)
