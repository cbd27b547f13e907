-- The numbers of bitmaps, in order of (order, base).
use Rattle.std.proofs.Common.{◌≡◌, ◌⊎◌, ℕ, zero, suc, ◌+◌, ◌-◌, ◌*◌, ◌/◌, ◌%◌, ◌^◌, ◌<◌, ◌≤◌, true, false, List, refl, sym, ap, subst, ◌∙◌, inl, inr, ⊎_elim, arith}
use Rattle.std.proofs.lemmas.Bool.{cases_lt, cases_order, cases_Bool}
use Rattle.std.proofs.lemmas.Nat.{pow_pos, div_below, shl_whole}
use Rattle.std.proofs.Math.Nat.{div-add-mod', mod-lt, mul_comm, mul-div_cancel, mul-mod_left, add-mul-div_right, add-mul-mod_self_right, mul-le-mul_left}
use Rattle.std.specs.FinSet as sets
use Rattle.folio_bitmaps.specs.Runs.{IsRun}
use Rattle.ho_base.specs.BitmapCount.{cover, bitmaps_of, bitmaps_below, bitmap_count}
use Rattle.folio_bitmaps.specs.Bitmaps.{bit_index, is_set, runs_of, AreBitmaps}
use Rattle.folio_bitmaps.specs.Chunks.{Element, Rises, run_of, number_of}
use Rattle.folio_bitmaps.proofs.Counts.{cover_pos, below_mono, below_more, below_next, covered}
use Rattle.folio_bitmaps.proofs.Marked.{contains-runs_of, marked-run, no_mark}

div_mono : (x y c : ℕ) → 0 < c → x ≤ y → x / c ≤ y / c
div_mono x y c pos le =
    let below : x / c < y / c + 1 = div_below x c (y / c + 1) pos (omega (arith, div-add-mod' y c, mod-lt y pos)) in
    omega arith

pub none_below : (n : ℕ) → bitmaps_below n 0 ≡ 0
unfolding bitmaps_below
none_below n = refl

pub few_of : (n o : ℕ) → n < 2 ^ 32 → bitmaps_of n o ≤ 2 ^ 20
few_of n o lt =
    let pos : 0 < 2 ^ o = pow_pos o in
    let below : bitmaps_of n o < 2 ^ 20 + 1 = div_below (n + (cover o - 1)) (cover o) (2 ^ 20 + 1) (cover_pos o) (omega arith) in
    omega arith

pub few_below : (n o : ℕ) → n < 2 ^ 32 → bitmaps_below n o ≤ o * 2 ^ 20
few_below n zero lt = omega (arith, none_below n)
few_below n (suc o) lt = omega (arith, few_below n o lt, few_of n o lt, below_more n o)

pub few_count : (n : ℕ) → n < 2 ^ 32 → bitmap_count n ≤ 10 * 2 ^ 20
unfolding bitmap_count
few_count n lt = few_below n 10 lt

-- a bitmap that stands least_after those of an order is one of a greater order
pub goes_on : (n o left t : ℕ) → o ≤ 9 → bitmaps_below n o + left ≡ t → t < bitmap_count n → bitmaps_of n o ≤ left → o + 1 ≤ 9
unfolding bitmap_count
goes_on n o left t small e lt le =
    ⊎_elim (λ (l : o < 9). omega arith)
    (λ (g : 9 ≤ o). let same : o + 1 ≡ 10 = omega arith in absurd (omega (arith, below_next n o, ap (bitmaps_below n) same)))
    (cases_lt o 9)

pub cover_shl : (o : ℕ) → o ≤ 9 → 4096 * 2 ^ o % 2 ^ 32 ≡ cover o
cover_shl o le = shl_whole 4096 13 o 32 (omega arith) (omega arith)

pub base_below : (n o q : ℕ) → q < bitmaps_of n o → q * cover o < n
base_below n o q lt =
    let c = cover o in
    let pos : 0 < c = cover_pos o in
    let d : bitmaps_of n o * c + (n + (c - 1)) % c ≡ n + (c - 1) = div-add-mod' (n + (c - 1)) c in
    let more : c * (q + 1) ≤ c * bitmaps_of n o = mul-le-mul_left c (omega arith) in
    let split : c * (q + 1) ≡ q * c + c = grind arith in
    let turn : c * bitmaps_of n o ≡ bitmaps_of n o * c = mul_comm c (bitmaps_of n o) in
    omega arith

pub quotient_of : (o q : ℕ) → q * cover o / cover o ≡ q
quotient_of o q = mul-div_cancel q (cover_pos o)

pub aligned_of : (o q : ℕ) → q * cover o % cover o ≡ 0
aligned_of o q = mul-mod_left q (cover o)

pub base_is : (e : Element) → e.base % cover e.order ≡ 0 → e.base ≡ e.base / cover e.order * cover e.order
base_is e h = omega (arith, div-add-mod' e.base (cover e.order))

pub number_within : (n : ℕ) (e : Element) → e.base < n → number_of n e < bitmaps_below n (suc e.order)
number_within n e lt = omega (arith, div_below e.base (cover e.order) (bitmaps_of n e.order) (cover_pos e.order) (omega (arith, covered n e.order)), below_more n e.order)

pub number_count : (n : ℕ) (e : Element) → e.order ≤ 9 → e.base < n → number_of n e < bitmap_count n
unfolding bitmap_count
number_count n e small lt = omega (arith, number_within n e lt, below_mono n (suc e.order) 10 (omega arith))

order_less : (n : ℕ) (e f : Element) → e.base < n → e.order < f.order → number_of n e < number_of n f
order_less n e f lt o = omega (arith, number_within n e lt, below_mono n (suc e.order) f.order (omega arith))

-- a bitmap of the same order with a base that isn't less has a number that isn't less
same_order : (n : ℕ) (e f : Element) → e.order ≡ f.order → e.base ≤ f.base → number_of n e ≤ number_of n f
same_order n e f o le =
    let quotient : e.base / cover e.order ≤ f.base / cover f.order = subst (λ (p : ℕ). e.base / cover e.order ≤ f.base / cover p) o (div_mono e.base f.base (cover e.order) (cover_pos e.order) le) in
    omega (arith, ap (bitmaps_below n) o)

pub number_rises : (n : ℕ) (e f : Element) → f.base < n → number_of n e < number_of n f → Rises e f
number_rises n e f below lt =
    ⊎_elim (λ (same : e.order ≡ f.order).
    ⊎_elim (λ (l : e.base < f.base). inr (same, l)) (λ (g : f.base ≤ e.base). absurd (omega (arith, same_order n f e (sym same) g))) (cases_lt e.base f.base))
    (λ (ne : (e.order < f.order) ⊎ (f.order < e.order)).
    ⊎_elim (λ (l : e.order < f.order). inl l) (λ (l : f.order < e.order). absurd (omega (arith, order_less n f e below l))) ne)
    (cases_order e.order f.order)

pub rises_number : (n : ℕ) (e f : Element) → e.base < n → e.base % cover e.order ≡ 0 → f.base % cover f.order ≡ 0 → Rises e f → number_of n e < number_of n f
rises_number n e f below a b (inl l) = order_less n e f below l
rises_number n e f below a b (inr (same, l)) =
    ⊎_elim (λ (lt : number_of n e < number_of n f). lt)
    (λ (ge : number_of n f ≤ number_of n e).
    let quotient : f.base / cover f.order ≤ e.base / cover e.order = omega (arith, ap (bitmaps_below n) same) in
    let bases : cover e.order * (f.base / cover f.order) ≤ cover e.order * (e.base / cover e.order) = mul-le-mul_left (cover e.order) quotient in
    let at_f : f.base ≡ cover e.order * (f.base / cover f.order) = base_is f b ∙ mul_comm (f.base / cover f.order) (cover f.order) ∙ ap (λ (o : ℕ). cover o * (f.base / cover f.order)) (sym same) in
    let at_e : e.base ≡ cover e.order * (e.base / cover e.order) = base_is e a ∙ mul_comm (e.base / cover e.order) (cover e.order) in
    absurd (omega arith))
    (cases_lt (number_of n e) (number_of n f))

-- where the bit of a run is that an element has
pub bit_index_of : (n : ℕ) (e : Element) (b : ℕ) → e.base % cover e.order ≡ 0 → bit_index n (run_of e b) ≡ 4096 * number_of n e + b
bit_index_of n e b h =
    let q = e.base / cover e.order in
    let wide : q * cover e.order ≡ q * 4096 * 2 ^ e.order = grind arith in
    let first : e.base / 2 ^ e.order ≡ q * 4096 = ap (λ (x : ℕ). x / 2 ^ e.order) (base_is e h ∙ wide) ∙ mul-div_cancel (q * 4096) (pow_pos e.order) in
    omega (arith, add-mul-div_right e.base b (pow_pos e.order))

pub run_is : (n : ℕ) (e : Element) (b : ℕ) → e.order ≤ 9 → e.base % cover e.order ≡ 0 → (run_of e b).first + 2 ^ e.order ≤ n → IsRun n (run_of e b)
run_is n e b small h le =
    let q = e.base / cover e.order in
    let wide : q * cover e.order ≡ q * 4096 * 2 ^ e.order = grind arith in
    (small, add-mul-mod_self_right e.base b (2 ^ e.order) ∙ ap (λ (x : ℕ). x % 2 ^ e.order) (base_is e h ∙ wide) ∙ mul-mod_left (q * 4096) (2 ^ e.order), le)

-- the bits of bitmap number t are those of its runs
pub bitmap_bits : (n : ℕ) (bytes : List ℕ) (e : Element) (b : ℕ) → AreBitmaps n bytes → e.order ≤ 9 → e.base % cover e.order ≡ 0 → e.base < n → b < 4096
    → is_set bytes (4096 * number_of n e + b) ≡ sets.contains (runs_of n bytes) (run_of e b)
bitmap_bits n bytes e b h small aligned below lt =
    let q = e.base / cover e.order in
    let wide : q * cover e.order ≡ q * 4096 * 2 ^ e.order = grind arith in
    let few : q < bitmaps_of n e.order = div_below e.base (cover e.order) (bitmaps_of n e.order) (cover_pos e.order) (omega (arith, covered n e.order)) in
    let at : 4096 * bitmaps_below n e.order + (4096 * q + b) ≡ 4096 * number_of n e + b = omega arith in
    ⊎_elim (λ (le : (run_of e b).first + 2 ^ e.order ≤ n).
    ap (is_set bytes) (sym (bit_index_of n e b aligned)) ∙ sym (marked-run n bytes (run_of e b) (run_is n e b small aligned le)) ∙ sym (contains-runs_of n bytes (run_of e b)))
    (λ (gt : n < (run_of e b).first + 2 ^ e.order).
    let unset : is_set bytes (4096 * number_of n e + b) ≡ false = ⊎_elim
    (λ (t : is_set bytes (4096 * number_of n e + b) ≡ true).
    let ends : (4096 * q + b + 1) * 2 ^ e.order ≤ n = h.runs e.order (4096 * q + b) small (omega arith) (ap (is_set bytes) at ∙ t) in
    let spread : (4096 * q + b + 1) * 2 ^ e.order ≡ q * 4096 * 2 ^ e.order + b * 2 ^ e.order + 2 ^ e.order = grind arith in
    absurd (omega (arith, base_is e aligned)))
    (λ (f : is_set bytes (4096 * number_of n e + b) ≡ false). f)
    (cases_Bool (is_set bytes (4096 * number_of n e + b))) in
    unset ∙ sym (contains-runs_of n bytes (run_of e b) ∙ no_mark n bytes (run_of e b) (λ r. omega (arith, r.2))))
    (le_or n ((run_of e b).first + 2 ^ e.order))
  where
    le_or : (m k : ℕ) → (k ≤ m) ⊎ (m < k)
    le_or m k = ⊎_elim (λ (l : m < k). inr l) (λ (g : k ≤ m). inl g) (cases_lt m k)
