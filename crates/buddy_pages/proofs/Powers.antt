-- Multiples of powers of two: where a run of 2^k frames begins, and where its buddy does.
use Rattle.std.proofs.Common.{◌≡◌, ◌≢◌, ◌⊎◌, ℕ, ◌+◌, ◌-◌, ◌*◌, ◌/◌, ◌%◌, ◌^◌, ◌<◌, ◌≤◌, sym, ◌∙◌, ap, subst, inl, inr, ⊎_elim, arith}
use Rattle.std.proofs.Math.Nat.{two-pow-succ, mod-eq-zero_of_dvd, dvd_of_mod-eq-zero, dvd-add, dvd-sub, le_of_dvd, dvd_trans, dvd-mul_right, dvd-mul_left, mod-lt, mod-le, div-add-mod', zero-mod}
use Rattle.std.proofs.lemmas.Bool.{cases_lt}
use Rattle.std.proofs.lemmas.Nat.{pow_pos, pow-add, xor_block, xor_comm}
use Rattle.std.specs.Int.{◌∣◌}
use Rattle.std.specs.Int.Bits.{bit_xor, xor_self}

pub double : (k : ℕ) → 2 ^ (k + 1) ≡ 2 ^ k + 2 ^ k
double k = ap (λ i. 2 ^ i) (omega arith) ∙ two-pow-succ k

pub multiple_sum : (x y s : ℕ) → x % s ≡ 0 → y % s ≡ 0 → (x + y) % s ≡ 0
multiple_sum x y s h i = mod-eq-zero_of_dvd s (dvd-add s (dvd_of_mod-eq-zero s h) (dvd_of_mod-eq-zero s i))

pub multiple_sub : (x y s : ℕ) → x % s ≡ 0 → y % s ≡ 0 → (x - y) % s ≡ 0
multiple_sub x y s h i = mod-eq-zero_of_dvd s (dvd-sub s (dvd_of_mod-eq-zero s h) (dvd_of_mod-eq-zero s i))

-- the next multiple of s is s further on
pub multiple_step : (x y s : ℕ) → x % s ≡ 0 → y % s ≡ 0 → x < y → x + s ≤ y
multiple_step x y s h i lt =
    let pos : 0 < y - x = omega arith in
    let d : s ∣ y - x = dvd_of_mod-eq-zero s (multiple_sub y x s i h) in
    let le : s ≤ y - x = le_of_dvd pos d in
    omega arith

pub multiple_near : (x y s : ℕ) → x % s ≡ 0 → y % s ≡ 0 → y < x + s → y ≤ x
multiple_near x y s h i lt =
    ⊎_elim (λ (e : x < y). let le : x + s ≤ y = multiple_step x y s h i e in omega arith)
    (λ (e : y ≤ x). e)
    (cases_lt x y)

-- a multiple of a power is one of each lower power
pub multiple_lower : (x j k : ℕ) → j ≤ k → x % 2 ^ k ≡ 0 → x % 2 ^ j ≡ 0
multiple_lower x j k le h =
    let e : 2 ^ k ≡ 2 ^ j * 2 ^ (k - j) = ap (λ i. 2 ^ i) (omega arith) ∙ pow-add 2 j (k - j) in
    let d : 2 ^ j ∣ 2 ^ k = let P : ℕ → Type 0 = λ z. 2 ^ j ∣ z in subst P (sym e) (dvd-mul_right (2 ^ j) (2 ^ (k - j))) in
    mod-eq-zero_of_dvd (2 ^ j) (dvd_trans (2 ^ j) d (dvd_of_mod-eq-zero (2 ^ k) h))

pub power_multiple : (j k : ℕ) → j ≤ k → 2 ^ k % 2 ^ j ≡ 0
power_multiple j k le =
    let e : 2 ^ k ≡ 2 ^ j * 2 ^ (k - j) = ap (λ i. 2 ^ i) (omega arith) ∙ pow-add 2 j (k - j) in
    let d : 2 ^ j ∣ 2 ^ k = let P : ℕ → Type 0 = λ z. 2 ^ j ∣ z in subst P (sym e) (dvd-mul_right (2 ^ j) (2 ^ (k - j))) in
    mod-eq-zero_of_dvd (2 ^ j) d

-- the last multiple of s up to p
pub start_multiple : (p s : ℕ) → (p - p % s) % s ≡ 0
start_multiple p s =
    let d : p / s * s ≡ p - p % s = omega (arith, div-add-mod' p s) in
    let e : (p / s * s) % s ≡ 0 = mod-eq-zero_of_dvd s (dvd-mul_left s (p / s)) in
    subst (λ (z : ℕ). z % s ≡ 0) d e

pub start_only : (a p s : ℕ) → a % s ≡ 0 → a ≤ p → p < a + s → p - p % s ≡ a
start_only a p s h from to =
    let pos : 0 < s = omega arith in
    let below : p % s < s = mod-lt p pos in
    let le : p % s ≤ p = mod-le p s in
    let f : p - p % s ≤ a = multiple_near a (p - p % s) s h (start_multiple p s) (omega arith) in
    let g : a ≤ p - p % s = multiple_near (p - p % s) a s (start_multiple p s) h (omega arith) in
    omega arith

-- a run of order j that has a frame in common with one of a higher order lies in it
pub run_within : (a q p j k : ℕ) → j ≤ k → a % 2 ^ k ≡ 0 → q % 2 ^ j ≡ 0 → a ≤ p → p < a + 2 ^ k → q ≤ p → p < q + 2 ^ j → (a ≤ q) × (q + 2 ^ j ≤ a + 2 ^ k)
run_within a q p j k le h i af at qf qt =
    let low : a % 2 ^ j ≡ 0 = multiple_lower a j k le h in
    let high : (a + 2 ^ k) % 2 ^ j ≡ 0 = multiple_sum a (2 ^ k) (2 ^ j) low (power_multiple j k le) in
    (multiple_near q a (2 ^ j) i low (omega arith), multiple_step q (a + 2 ^ k) (2 ^ j) i high (omega arith))

-- the two halves of a run one order higher
pub halves : (q k : ℕ) → q % 2 ^ k ≡ 0 → (q % 2 ^ (k + 1) ≡ 0) ⊎ ((2 ^ k ≤ q) × ((q - 2 ^ k) % 2 ^ (k + 1) ≡ 0))
halves q k h =
    let r : ℕ = q % 2 ^ (k + 1) in
    let pos : 0 < 2 ^ (k + 1) = pow_pos (k + 1) in
    let below : q % 2 ^ (k + 1) < 2 ^ (k + 1) = mod-lt q pos in
    let two : 2 ^ (k + 1) ≡ 2 ^ k + 2 ^ k = double k in
    let le : q % 2 ^ (k + 1) ≤ q = mod-le q (2 ^ (k + 1)) in
    let start : (q - q % 2 ^ (k + 1)) % 2 ^ (k + 1) ≡ 0 = start_multiple q (2 ^ (k + 1)) in
    let low : (q - q % 2 ^ (k + 1)) % 2 ^ k ≡ 0 = multiple_lower (q - q % 2 ^ (k + 1)) k (k + 1) (omega arith) start in
    let rest : (q - (q - q % 2 ^ (k + 1))) % 2 ^ k ≡ 0 = multiple_sub q (q - q % 2 ^ (k + 1)) (2 ^ k) h low in
    let is : q - (q - q % 2 ^ (k + 1)) ≡ q % 2 ^ (k + 1) = omega arith in
    let some : (q % 2 ^ (k + 1)) % 2 ^ k ≡ 0 = subst (λ (z : ℕ). z % 2 ^ k ≡ 0) is rest in
    let twice : q % 2 ^ (k + 1) ≤ 2 ^ k = multiple_near (2 ^ k) (q % 2 ^ (k + 1)) (2 ^ k) (power_multiple k k (omega arith)) some (omega arith) in
    ⊎_elim (λ (e : q % 2 ^ (k + 1) < 1). inl (omega arith))
    (λ (e : 1 ≤ q % 2 ^ (k + 1)).
    let once : 0 + 2 ^ k ≤ q % 2 ^ (k + 1) = multiple_step 0 (q % 2 ^ (k + 1)) (2 ^ k) (zero-mod (2 ^ k)) some (omega arith) in
    let same : q % 2 ^ (k + 1) ≡ 2 ^ k = omega arith in
    inr (omega arith, subst (λ (z : ℕ). (q - z) % 2 ^ (k + 1) ≡ 0) same start))
    (cases_lt (q % 2 ^ (k + 1)) 1)

xor-zero : (a : ℕ) → bit_xor a 0 ≡ a
xor-zero a = xor_comm a 0

-- the buddy of a run that begins at a multiple of twice its frames is behind it, and the buddy of that is the run
buddy_block_above : (a k : ℕ) → bit_xor (a * 2 ^ (k + 1) + 0) (0 * 2 ^ (k + 1) + 2 ^ k) ≡ a * 2 ^ (k + 1) + 2 ^ k
buddy_block_above a k =
    let pos : 0 < 2 ^ k = pow_pos k in
    let two : 2 ^ (k + 1) ≡ 2 ^ k + 2 ^ k = double k in
    xor_block (k + 1) a 0 0 (2 ^ k) (pow_pos (k + 1)) (omega arith) ∙ ap (λ z. z * 2 ^ (k + 1) + 2 ^ k) (xor-zero a)

buddy_block_below : (a k : ℕ) → bit_xor (a * 2 ^ (k + 1) + 2 ^ k) (0 * 2 ^ (k + 1) + 2 ^ k) ≡ a * 2 ^ (k + 1) + 0
buddy_block_below a k =
    let pos : 0 < 2 ^ k = pow_pos k in
    let two : 2 ^ (k + 1) ≡ 2 ^ k + 2 ^ k = double k in
    let lt : 2 ^ k < 2 ^ (k + 1) = omega arith in
    xor_block (k + 1) a 0 (2 ^ k) (2 ^ k) lt lt
    ∙ ap (λ z. z * 2 ^ (k + 1) + bit_xor (2 ^ k) (2 ^ k)) (xor-zero a)
    ∙ ap (λ z. a * 2 ^ (k + 1) + z) (xor_self (2 ^ k))

plain_above : (a k : ℕ) → bit_xor (a * 2 ^ (k + 1)) (2 ^ k) ≡ a * 2 ^ (k + 1) + 2 ^ k
plain_above a k =
    let l : a * 2 ^ (k + 1) ≡ a * 2 ^ (k + 1) + 0 = omega arith in
    let r : 2 ^ k ≡ 0 * 2 ^ (k + 1) + 2 ^ k = omega arith in
    ap (λ z. bit_xor z (2 ^ k)) l ∙ ap (λ z. bit_xor (a * 2 ^ (k + 1) + 0) z) r ∙ buddy_block_above a k

plain_below : (a k : ℕ) → bit_xor (a * 2 ^ (k + 1) + 2 ^ k) (2 ^ k) ≡ a * 2 ^ (k + 1)
plain_below a k =
    let l : a * 2 ^ (k + 1) + 0 ≡ a * 2 ^ (k + 1) = omega arith in
    let r : 2 ^ k ≡ 0 * 2 ^ (k + 1) + 2 ^ k = omega arith in
    ap (λ z. bit_xor (a * 2 ^ (k + 1) + 2 ^ k) z) r ∙ buddy_block_below a k ∙ l

pub buddy_above : (q k : ℕ) → q % 2 ^ (k + 1) ≡ 0 → bit_xor q (2 ^ k) ≡ q + 2 ^ k
buddy_above q k h =
    let e : q / 2 ^ (k + 1) * 2 ^ (k + 1) ≡ q = omega (arith, div-add-mod' q (2 ^ (k + 1))) in
    let x : bit_xor (q / 2 ^ (k + 1) * 2 ^ (k + 1)) (2 ^ k) ≡ q / 2 ^ (k + 1) * 2 ^ (k + 1) + 2 ^ k = plain_above (q / 2 ^ (k + 1)) k in
    subst (λ (z : ℕ). bit_xor z (2 ^ k) ≡ z + 2 ^ k) e x

pub buddy_below : (q k : ℕ) → q % 2 ^ (k + 1) ≡ 0 → bit_xor (q + 2 ^ k) (2 ^ k) ≡ q
buddy_below q k h =
    let e : q / 2 ^ (k + 1) * 2 ^ (k + 1) ≡ q = omega (arith, div-add-mod' q (2 ^ (k + 1))) in
    let x : bit_xor (q / 2 ^ (k + 1) * 2 ^ (k + 1) + 2 ^ k) (2 ^ k) ≡ q / 2 ^ (k + 1) * 2 ^ (k + 1) = plain_below (q / 2 ^ (k + 1)) k in
    subst (λ (z : ℕ). bit_xor (z + 2 ^ k) (2 ^ k) ≡ z) e x

-- a run is the front or the back half of the run one order higher, and its buddy the other
pub buddy_cases : (q k : ℕ) → q % 2 ^ k ≡ 0 → ((q % 2 ^ (k + 1) ≡ 0) × (bit_xor q (2 ^ k) ≡ q + 2 ^ k)) ⊎ ((2 ^ k ≤ q) × ((q - 2 ^ k) % 2 ^ (k + 1) ≡ 0) × (bit_xor q (2 ^ k) ≡ q - 2 ^ k))
buddy_cases q k h =
    ⊎_elim (λ (m : q % 2 ^ (k + 1) ≡ 0). inl (m, buddy_above q k m))
    (λ (m : (2 ^ k ≤ q) × ((q - 2 ^ k) % 2 ^ (k + 1) ≡ 0)).
    let e : q - 2 ^ k + 2 ^ k ≡ q = omega (arith, m.0) in
    inr (m.0, m.1, subst (λ (z : ℕ). bit_xor z (2 ^ k) ≡ q - 2 ^ k) e (buddy_below (q - 2 ^ k) k m.1)))
    (halves q k h)

pub buddy_twice : (q k : ℕ) → q % 2 ^ k ≡ 0 → bit_xor (bit_xor q (2 ^ k)) (2 ^ k) ≡ q
buddy_twice q k h =
    ⊎_elim (λ (m : (q % 2 ^ (k + 1) ≡ 0) × (bit_xor q (2 ^ k) ≡ q + 2 ^ k)).
    ap (λ z. bit_xor z (2 ^ k)) m.1 ∙ buddy_below q k m.0)
    (λ (m : (2 ^ k ≤ q) × ((q - 2 ^ k) % 2 ^ (k + 1) ≡ 0) × (bit_xor q (2 ^ k) ≡ q - 2 ^ k)).
    let e : q - 2 ^ k + 2 ^ k ≡ q = omega (arith, m.0) in
    ap (λ z. bit_xor z (2 ^ k)) m.2 ∙ buddy_above (q - 2 ^ k) k m.1 ∙ e)
    (buddy_cases q k h)

pub buddy_other : (q k : ℕ) → q % 2 ^ k ≡ 0 → bit_xor q (2 ^ k) ≢ q
buddy_other q k h same =
    let pos : 0 < 2 ^ k = pow_pos k in
    ⊎_elim (λ (m : (q % 2 ^ (k + 1) ≡ 0) × (bit_xor q (2 ^ k) ≡ q + 2 ^ k)). omega (arith, m.1))
    (λ (m : (2 ^ k ≤ q) × ((q - 2 ^ k) % 2 ^ (k + 1) ≡ 0) × (bit_xor q (2 ^ k) ≡ q - 2 ^ k)). omega (arith, m.0, m.2))
    (buddy_cases q k h)
