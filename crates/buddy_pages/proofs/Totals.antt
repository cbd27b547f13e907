-- Sums over the numbers below a bound.
use Rattle.std.proofs.Common.{◌≡◌, ◌≢◌, ℕ, zero, suc, ◌+◌, ◌-◌, ◌<◌, ◌≤◌, cond, ltb, List, length, get_or, take, refl, sym, ◌∙◌, ap, subst, ⊎_elim, arith}
use Rattle.std.specs.List.{range_with_len, sum_by}
use Rattle.std.proofs.lemmas.Bool.{cases_lt, cases_eq, lt-ltb, le-ltb}
use Rattle.std.proofs.lemmas.List.{take_all}
use Rattle.std.proofs.lemmas.List.FromFn.{length-range_with_len, get_or-range_with_len}
use Rattle.std.proofs.lemmas.List.Sums.{sum_by_more}

-- f 0 + f 1 + .. + f (n - 1)
pub total : (ℕ → ℕ) → ℕ → ℕ
total f zero = 0
total f (suc n) = total f n + f n

pub total-zero : (f : ℕ → ℕ) → total f 0 ≡ 0
unfolding total
total-zero f = refl

pub total-suc : (f : ℕ → ℕ) (n : ℕ) → total f (suc n) ≡ total f n + f n
unfolding total
total-suc f n = refl

pub total_same : (f g : ℕ → ℕ) (n : ℕ) → ((i : ℕ) → i < n → f i ≡ g i) → total f n ≡ total g n
unfolding total
total_same f g zero h = refl
total_same f g (suc n) h =
    let rest : total f n ≡ total g n = total_same f g n (λ i l. h i (omega arith)) in
    let last : f n ≡ g n = h n (omega arith) in
    omega arith

pub total_sum : (f g : ℕ → ℕ) (n : ℕ) → total (λ i. f i + g i) n ≡ total f n + total g n
unfolding total
total_sum f g zero = refl
total_sum f g (suc n) = let rest : total (λ i. f i + g i) n ≡ total f n + total g n = total_sum f g n in omega arith

pub total_none : (f : ℕ → ℕ) (n : ℕ) → ((i : ℕ) → i < n → f i ≡ 0) → total f n ≡ 0
unfolding total
total_none f zero h = refl
total_none f (suc n) h =
    let rest : total f n ≡ 0 = total_none f n (λ i l. h i (omega arith)) in
    let last : f n ≡ 0 = h n (omega arith) in
    omega arith

pub total_le : (f : ℕ → ℕ) (n : ℕ) → ((i : ℕ) → f i ≤ 1) → total f n ≤ n
unfolding total
total_le f zero h = omega arith
total_le f (suc n) h = let rest : total f n ≤ n = total_le f n h in let last : f n ≤ 1 = h n in omega arith

-- numbers from m on that add nothing
pub total_rest : (f : ℕ → ℕ) (m s : ℕ) → ((i : ℕ) → m ≤ i → i < m + s → f i ≡ 0) → total f (m + s) ≡ total f m
total_rest f m zero h = ap (total f) (omega arith)
total_rest f m (suc s) h =
    let e : m + suc s ≡ suc (m + s) = omega arith in
    let rest : total f (m + s) ≡ total f m = total_rest f m s (λ i a b. h i a (omega arith)) in
    let last : f (m + s) ≡ 0 = h (m + s) (omega arith) (omega arith) in
    let more : total f (m + suc s) ≡ total f (m + s) + f (m + s) = ap (total f) e ∙ total-suc f (m + s) in
    omega arith

-- two sums that differ by 1 at one number
pub total_one : (f g : ℕ → ℕ) (q n : ℕ) → q < n → ((i : ℕ) → i ≢ q → f i ≡ g i) → f q ≡ g q + 1 → total f n ≡ total g n + 1
total_one f g q zero l h e = absurd (omega arith)
total_one f g q (suc n) l h e =
    let x : total f (suc n) ≡ total f n + f n = total-suc f n in
    let y : total g (suc n) ≡ total g n + g n = total-suc g n in
    ⊎_elim (λ (same : q ≡ n).
    let front : total f n ≡ total g n = total_same f g n (λ i a. h i (λ b. omega arith)) in
    let last : f n ≡ g n + 1 = subst (λ (z : ℕ). f z ≡ g z + 1) same e in
    omega arith)
    (λ (other : q ≢ n).
    let front : total f n ≡ total g n + 1 = total_one f g q n (omega arith) h e in
    let last : f n ≡ g n = h n (λ b. other (sym b)) in
    omega arith)
    (cases_eq q n)

-- a sum that isn't 0 has a number that adds something
pub total_some : (f : ℕ → ℕ) (n : ℕ) → 0 < total f n → (i : ℕ) × ((i < n) × (0 < f i))
unfolding total
total_some f zero h = absurd (omega arith)
total_some f (suc n) h =
    ⊎_elim (λ (l : f n < 1).
    let rest = total_some f n (omega arith) in
    (rest.0, (omega (arith, rest.1.0), rest.1.1)))
    (λ (l : 1 ≤ f n). (n, (omega arith, l)))
    (cases_lt (f n) 1)

-- f moved up by s
pub shift : ℕ → (ℕ → ℕ) → ℕ → ℕ
shift s f p = cond (ltb p s) 0 (f (p - s))

pub shift_below : (s : ℕ) (f : ℕ → ℕ) (p : ℕ) → p < s → shift s f p ≡ 0
unfolding shift
shift_below s f p h = ap (λ b. cond b 0 (f (p - s))) (lt-ltb p s h)

pub shift_above : (s : ℕ) (f : ℕ → ℕ) (p : ℕ) → s ≤ p → shift s f p ≡ f (p - s)
unfolding shift
shift_above s f p h = ap (λ b. cond b 0 (f (p - s))) (le-ltb p s h)

total_moved : (s : ℕ) (f : ℕ → ℕ) (m : ℕ) → total (shift s f) (s + m) ≡ total f m
total_moved s f zero =
    ap (total (shift s f)) (omega arith) ∙ total_none (shift s f) s (λ i l. shift_below s f i l) ∙ sym (total-zero f)
total_moved s f (suc m) =
    let e : s + suc m ≡ suc (s + m) = omega arith in
    let rest : total (shift s f) (s + m) ≡ total f m = total_moved s f m in
    let more : total (shift s f) (s + suc m) ≡ total (shift s f) (s + m) + shift s f (s + m) = ap (total (shift s f)) e ∙ total-suc (shift s f) (s + m) in
    let last : shift s f (s + m) ≡ f m = shift_above s f (s + m) (omega arith) ∙ ap f (omega arith) in
    let right : total f (suc m) ≡ total f m + f m = total-suc f m in
    omega arith

-- moved up by s, a sum whose last s numbers add nothing stays
pub total_shift : (s : ℕ) (f : ℕ → ℕ) (n : ℕ) → ((i : ℕ) → i < n → n ≤ i + s → f i ≡ 0) → total (shift s f) n ≡ total f n
total_shift s f n h =
    ⊎_elim (λ (l : n < s).
    total_none (shift s f) n (λ i a. shift_below s f i (omega arith))
    ∙ sym (total_none f n (λ i a. h i a (omega arith))))
    (λ (l : s ≤ n).
    let e : n ≡ s + (n - s) = omega arith in
    let g : n ≡ n - s + s = omega arith in
    ap (total (shift s f)) e ∙ total_moved s f (n - s)
    ∙ sym (ap (total f) g ∙ total_rest f (n - s) s (λ i a b. h i (omega arith) (omega arith))))
    (cases_lt n s)

-- a sum over a list, and over its indices
sum_take : {X : Type 0} (f : X → ℕ) (xs : List X) (d : X) (k : ℕ) → k ≤ length xs → sum_by f (take k xs) ≡ total (λ i. f (get_or xs i d)) k
sum_take f xs d zero h = sym (total-zero (λ i. f (get_or xs i d)))
sum_take f xs d (suc k) h =
    let e : suc k ≡ k + 1 = omega arith in
    let more : sum_by f (take (k + 1) xs) ≡ sum_by f (take k xs) + f (get_or xs k d) = sum_by_more f xs k d (omega arith) in
    let rest : sum_by f (take k xs) ≡ total (λ i. f (get_or xs i d)) k = sum_take f xs d k (omega arith) in
    ap (λ i. sum_by f (take i xs)) e ∙ more ∙ ap (λ z. z + f (get_or xs k d)) rest ∙ sym (total-suc (λ i. f (get_or xs i d)) k)

pub sum_total : {X : Type 0} (f : X → ℕ) (xs : List X) (d : X) → sum_by f xs ≡ total (λ i. f (get_or xs i d)) (length xs)
sum_total f xs d = ap (sum_by f) (sym (take_all (length xs) xs (omega arith))) ∙ sum_take f xs d (length xs) (omega arith)

pub sum_range : (f : ℕ → ℕ) (n : ℕ) → sum_by f (range_with_len 0 n) ≡ total f n
sum_range f n =
    sum_total f (range_with_len 0 n) 0
    ∙ ap (total (λ i. f (get_or (range_with_len 0 n) i 0))) (length-range_with_len 0 n)
    ∙ total_same (λ i. f (get_or (range_with_len 0 n) i 0)) f n (λ i l. ap f (get_or-range_with_len 0 n i 0 l ∙ omega arith))
