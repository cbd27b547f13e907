-- One element that is read.
use Rattle.std.proofs.Common.{◌≡◌, ℕ, ◌+◌, ◌-◌, ◌*◌, ◌/◌, ◌%◌, ◌^◌, ◌<◌, ◌≤◌, true, false, List, [], ◌++◌, length, take, drop, sym, ap, ◌∙◌, ⊎_elim, arith}
use Rattle.std.proofs.lemmas.Bool.{cases_lt, cases_Bool, false≢true}
use Rattle.std.proofs.lemmas.Nat.{pow_pos, le-div, shl_whole}
use Rattle.std.proofs.lemmas.List.{drop-drop}
use Rattle.std.proofs.Math.Nat.{div-add-mod', mul-le-mul_left, mul_comm}
use borrow.Rule.Slice.PartMut.{put_mid}
use Rattle.phys_frames.specs.Pages.{with_run}
use Rattle.ho_base.specs.BitmapCount.{cover, bitmaps_below, bitmap_count}
use Rattle.folio_bitmaps.specs.Bitmaps.{is_set}
use Rattle.folio_bitmaps.specs.Chunks.{Element, number_of}
use Rattle.folio_bitmaps.specs.Reading.{HasBitmap, EndWithin, NoneFrom, Follows, put}
use Rattle.folio_bitmaps.proofs.Keys.{number_count}
use Rattle.folio_bitmaps.proofs.Zeros.{none_past}

pub cover_long : (o : ℕ) → o ≤ 9 → 4096 * 2 ^ o % 18446744073709551616 ≡ cover o
cover_long o le = shl_whole 4096 13 o 64 (omega arith) (omega arith)

pub bit_index_count : (n order base : ℕ) → HasBitmap n order base → bitmaps_below n order + base / cover order < bitmap_count n
bit_index_count n order base h = let e : Element = record { base = base; order = order; bits = [] } in number_count n e h.0 h.1

pub ends_from_none : (n order base : ℕ) (bits : List ℕ) → HasBitmap n order base → NoneFrom bits ((n - base) / 2 ^ order) → EndWithin n order base bits
ends_from_none n order base bits h none b lt is =
    let q = (n - base) / 2 ^ order in
    ⊎_elim (λ (l : b < q).
    let up : 2 ^ order * (b + 1) ≤ 2 ^ order * q = mul-le-mul_left (2 ^ order) (omega arith) in
    let whole : q * 2 ^ order + (n - base) % 2 ^ order ≡ n - base = div-add-mod' (n - base) (2 ^ order) in
    let turn : 2 ^ order * q ≡ q * 2 ^ order = mul_comm (2 ^ order) q in
    let spread : 2 ^ order * (b + 1) ≡ b * 2 ^ order + 2 ^ order = grind arith in
    let below : base < n = h.1 in
    omega arith)
    (λ (g : q ≤ b). absurd (false≢true (sym (none b g) ∙ is)))
    (cases_lt b q)

pub none_from_ends : (n order base : ℕ) (bits : List ℕ) → HasBitmap n order base → length bits ≡ 512 → EndWithin n order base bits → NoneFrom bits ((n - base) / 2 ^ order)
none_from_ends n order base bits h size ends b le =
    ⊎_elim (λ (few : b < 4096).
    ⊎_elim (λ (t : is_set bits b ≡ true).
    let fits : base + b * 2 ^ order + 2 ^ order ≤ n = ends b few t in
    let spread : (b + 1) * 2 ^ order ≡ b * 2 ^ order + 2 ^ order = grind arith in
    let under : b + 1 ≤ (n - base) / 2 ^ order = le-div (b + 1) (n - base) (2 ^ order) (pow_pos order) (omega arith) in
    absurd (omega arith))
    (λ (f : is_set bits b ≡ false). f)
    (cases_Bool (is_set bits b)))
    (λ (g : 4096 ≤ b). none_past bits b (omega arith))
    (cases_lt b 4096)

-- the numbers that were read are those of the element
module _ (n least : ℕ) (e : Element) (base order : ℕ) (b : base ≡ e.base) (o : order ≡ e.order) where
  pub follows_place : Follows n least e → HasBitmap n order base
  follows_place f = (omega (arith, f.is.small), omega (arith, f.is.below), (λ i. b i % cover (o i)) ∙ f.is.aligned)

  pub number_is : (t : ℕ) → t ≡ bitmaps_below n order + base / cover order → t ≡ number_of n e
  number_is t h = h ∙ (λ i. bitmaps_below n (o i) + b i / cover (o i))

  pub follows_ends : (bits : List ℕ) → bits ≡ e.bits → Follows n least e → EndWithin n order base bits
  follows_ends bits same f = λ k few is. let within : e.base + k * 2 ^ e.order + 2 ^ e.order ≤ n = f.is.within k few (sym (ap (λ (l : List ℕ). is_set l k) same) ∙ is) in
      let count : 2 ^ order ≡ 2 ^ e.order = ap (λ (x : ℕ). 2 ^ x) o in
      let runs : k * 2 ^ order ≡ k * 2 ^ e.order = ap (λ (x : ℕ). k * x) count in
      omega arith

  pub it_follows : (bits : List ℕ) (t : ℕ) → bits ≡ e.bits → HasBitmap n order base → EndWithin n order base bits → t ≡ bitmaps_below n order + base / cover order → least ≤ t → Follows n least e
  it_follows bits t same h ends number le = record {
    is = record {
      small = omega (arith, h.0);
      aligned = sym (λ i. b i % cover (o i)) ∙ h.2;
      below = omega (arith, h.1);
      within = λ k few is. let fits : base + k * 2 ^ order + 2 ^ order ≤ n = ends k few (ap (λ (l : List ℕ). is_set l k) same ∙ is) in
          let count : 2 ^ order ≡ 2 ^ e.order = ap (λ (x : ℕ). 2 ^ x) o in
          let runs : k * 2 ^ order ≡ k * 2 ^ e.order = ap (λ (x : ℕ). k * x) count in
          omega arith;
    };
    later = omega (arith, number_is t number);
  }

  pub it_is_put : (old bits : List ℕ) (t w : ℕ) → bits ≡ e.bits → t ≡ bitmaps_below n order + base / cover order → w ≡ 512 → put_mid (512 * t) w old bits ≡ put n old e
  it_is_put old bits t w same number wide =
      ap (λ (rest : List ℕ). take (512 * t) old ++ (bits ++ rest)) (drop-drop w (512 * t) old ∙ ap (λ (j : ℕ). drop (512 * t + j) old) wide)
      ∙ (λ i. with_run old (512 * number_is t number i) 512 (same i))
