use Rattle.std.proofs.Common.{◌≡◌, ℕ, ◌+◌, ◌-◌, ◌*◌, ◌^◌, ◌<◌, ◌≤◌, List, length, take, drop, ap, ◌∙◌, arith, rules}
use Rattle.std.proofs.lemmas.Bool.{iff_false}
use Rattle.ho_base.specs.BitmapCount.{bitmap_count}
use Rattle.folio_bitmaps.specs.Chunks.{Element, element_at, number_of}
use Rattle.folio_bitmaps.proofs.Keys.{few_count}
use Rattle.folio_bitmaps.proofs.Elements.{follows_place, number_is, follows_ends, it_follows, it_is_put}
use Rattle.folio_bitmaps.proofs.reading.read_element.Goals as goal

wide : (k : ℕ) → 32 + 528 * k + 528 - (32 + 528 * k + 16) ≡ 512
wide k = omega arith

copied : (t : ℕ) → 512 * t + 512 - 512 * t ≡ 512
copied t = omega arith

-- the bytes between the places are the element's bitmap
bits_are : (page : List ℕ) (k : ℕ) → take (32 + 528 * k + 528 - (32 + 528 * k + 16)) (drop (32 + 528 * k + 16) page) ≡ (element_at page k).bits
bits_are page k = ap (λ (w : ℕ). take w (drop (32 + 528 * k + 16) page)) (wide k)

pub returns-in_default : goal.returns-in_default
returns-in_default c = λ f. c.in_default.ensures (follows_place c.args.frames c.args.least (element_at c.args.page.now c.args.k) c.get_u64-base.result c.get_u64-order.result c.get_u64-base.ensures c.get_u64-order.ensures f)

pub returns-then-t-least : goal.returns-then-t-least
returns-then-t-least c = λ f.
    let e : Element = element_at c.args.page.now c.args.k in
    let same : c.in-Some.t ≡ number_of c.args.frames e = number_is c.args.frames c.args.least e c.get_u64-base.result c.get_u64-order.result c.get_u64-base.ensures c.get_u64-order.ensures c.in-Some.t c.in-Some.ensures.1 in
    let later : c.args.least ≤ number_of c.args.frames e = f.later in
    let under : c.in-Some.t < c.args.least = c.if-t-least.true in
    less c.in-Some.t c.args.least (number_of c.args.frames e) same later under
  where
    less : (a b d : ℕ) → a ≡ d → b ≤ d → a < b → ⊥
    less a b d e l m = omega arith

pub returns-then-not-ends_within : goal.returns-then-not-ends_within
returns-then-not-ends_within c = λ f.
    iff_false c.ends_within.ensures c.if-not-ends_within.true
    (follows_ends c.args.frames c.args.least (element_at c.args.page.now c.args.k) c.get_u64-base.result c.get_u64-order.result c.get_u64-base.ensures c.get_u64-order.ensures _ (bits_are c.args.page.now c.args.k) f)

pub overflow_add-result : goal.overflow_add-result
overflow_add-result c =
    let under : c.in-Some.t < bitmap_count c.args.frames = c.in-Some.ensures.2 in
    let few : bitmap_count c.args.frames ≤ 10 * 2 ^ 20 = few_count c.args.frames (search rules) in
    let fits : c.in-Some.t + 1 < 2 ^ 32 = omega arith in
    search rules

pub slice_bounds-copy_from_slice-end : goal.slice_bounds-copy_from_slice-end
slice_bounds-copy_from_slice-end c =
    let under : c.in-Some.t < bitmap_count c.args.frames = c.in-Some.ensures.2 in
    let ends : 512 * c.in-Some.t + 512 ≤ length c.args.bytes.now = omega (arith, c.requires.room) in
    ends

pub returns : goal.returns
returns c =
    let n = c.args.frames in
    let e : Element = element_at c.args.page.now c.args.k in
    let bits = bits_are c.args.page.now c.args.k in (
      it_follows n c.args.least e c.get_u64-base.result c.get_u64-order.result c.get_u64-base.ensures c.get_u64-order.ensures _ c.in-Some.t bits c.in-Some.ensures.0 (c.ends_within.ensures.0 c.if-not-ends_within.false) c.in-Some.ensures.1 c.if-t-least.false,
      ap (λ (x : ℕ). x + 1) (number_is n c.args.least e c.get_u64-base.result c.get_u64-order.result c.get_u64-base.ensures c.get_u64-order.ensures c.in-Some.t c.in-Some.ensures.1),
      it_is_put n c.args.least e c.get_u64-base.result c.get_u64-order.result c.get_u64-base.ensures c.get_u64-order.ensures c.args.bytes.now c.copy_from_slice.new.self c.in-Some.t (512 * c.in-Some.t + 512 - 512 * c.in-Some.t)
          (c.copy_from_slice.ensures.after ∙ bits) c.in-Some.ensures.1 (copied c.in-Some.t),
    )
