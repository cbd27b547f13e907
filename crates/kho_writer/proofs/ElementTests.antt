-- An element that keeps its rules passes the tests of a chunk frame.
use Rattle.std.proofs.Common.{◌≡◌, ℕ, zero, suc, ◌+◌, ◌-◌, ◌*◌, ◌/◌, ◌%◌, ◌^◌, ◌<◌, ◌≤◌, true, List, [], ◌∷◌, length, drop, get_or, refl, sym, ap, ⊎_elim, arith}
use Rattle.std.specs.Prelude.{nat_eq, nat_lt, nat_le, ◌&&◌}
use Rattle.std.specs.List.{list_all}
use Rattle.std.proofs.lemmas.Bool.{cases_lt, lt-ltb, le-leb, eq-eqb, and_from, or_left, or_right}
use Rattle.std.proofs.lemmas.Nat.{pow_pos}
use Rattle.std.proofs.Math.Nat.{div-add-mod', mod-lt}
use Rattle.ho_base.specs.BitmapCount.{cover}
use Rattle.ho_base.specs.declared.limits.TheConstants.{MAX_ORDER}
use Rattle.folio_bitmaps.specs.Chunks.{Element, IsElement}
use Rattle.folio_bitmaps.specs.Reading.{NoneFrom}
use Rattle.folio_bitmaps.proofs.Elements.{none_from_ends}
use Rattle.folio_bitmaps.proofs.Zeros.{none_first_back, none_back}
use Rattle.record_frames.specs.Rules.{none_from, is_element}

-- zeros from a place on
zeros_behind : (bits : List ℕ) (m : ℕ) → ((i : ℕ) → m ≤ i → get_or bits i 0 ≡ 0) → list_all (nat_eq 0) (drop m bits) ≡ true
zeros_behind [] zero h = refl
zeros_behind [] (suc m) h = refl
zeros_behind (b ∷ bits) zero h =
    and_from (nat_eq 0 b) (list_all (nat_eq 0) bits) (eq-eqb 0 b (sym (h 0 (omega arith)))) (zeros_behind bits 0 (λ i le. h (suc i) (omega arith)))
zeros_behind (b ∷ bits) (suc m) h = zeros_behind bits m (λ i le. h (suc i) (omega arith))

-- a number whose bits from s on aren't set is below 2^s
small_below : (x s : ℕ) → x / 2 ^ s ≡ 0 → x < 2 ^ s
small_below x s e = omega (arith, div-add-mod' x (2 ^ s), mod-lt x (pow_pos s), ap (λ (q : ℕ). q * 2 ^ s) e)

none_from_bits : (bits : List ℕ) (k : ℕ) → ((i : ℕ) → get_or bits i 0 < 256) → NoneFrom bits k → none_from bits k ≡ true
none_from_bits bits k small none =
    ⊎_elim (λ (l : k / 8 < length bits).
    or_right (nat_le (length bits) (k / 8)) (nat_lt (get_or bits (k / 8) 0) (2 ^ (k % 8)) && list_all (nat_eq 0) (drop (k / 8 + 1) bits))
    (and_from (nat_lt (get_or bits (k / 8) 0) (2 ^ (k % 8))) (list_all (nat_eq 0) (drop (k / 8 + 1) bits))
    (lt-ltb (get_or bits (k / 8) 0) (2 ^ (k % 8)) (small_below (get_or bits (k / 8) 0) (k % 8) (none_first_back bits k (small (k / 8)) none)))
    (zeros_behind bits (k / 8 + 1) (λ i le. none_back bits k i (small i) (omega arith) none))))
    (λ (g : length bits ≤ k / 8).
    or_left (nat_le (length bits) (k / 8)) (nat_lt (get_or bits (k / 8) 0) (2 ^ (k % 8)) && list_all (nat_eq 0) (drop (k / 8 + 1) bits)) (le-leb (length bits) (k / 8) g))
    (cases_lt (k / 8) (length bits))

pub element_passes : (n : ℕ) (e : Element) → IsElement n e → length e.bits ≡ 512 → ((i : ℕ) → get_or e.bits i 0 < 256) → is_element n e ≡ true
element_passes n e h size small =
    let none : NoneFrom e.bits ((n - e.base) / 2 ^ e.order) = none_from_ends n e.order e.base e.bits (h.small, h.below, h.aligned) size h.within in
    and_from (nat_le e.order MAX_ORDER && nat_lt e.base n && nat_eq (e.base % cover e.order) 0) (none_from e.bits ((n - e.base) / 2 ^ e.order))
    (and_from (nat_le e.order MAX_ORDER && nat_lt e.base n) (nat_eq (e.base % cover e.order) 0)
    (and_from (nat_le e.order MAX_ORDER) (nat_lt e.base n) (le-leb e.order MAX_ORDER h.small) (lt-ltb e.base n h.below)) (eq-eqb (e.base % cover e.order) 0 h.aligned))
    (none_from_bits e.bits ((n - e.base) / 2 ^ e.order) small none)
