use Rattle.std.proofs.Common.{◌≡◌, ℕ, ◌+◌, ◌*◌, ◌/◌, ◌%◌, ◌^◌, sym, ap, ◌∙◌, arith}
use Rattle.ho_base.specs.BitmapCount.{cover, bitmaps_below}
use Rattle.folio_bitmaps.specs.Reading.{HasBitmap}
use Rattle.folio_bitmaps.proofs.Elements.{cover_long, bit_index_count}
use Rattle.folio_bitmaps.proofs.reading.number_at.Goals as goal

pub returns-then-base-cover-ne0 : goal.returns-then-base-cover-ne0
returns-then-base-cover-ne0 c = λ h. c.if-base-cover-ne0.true (ap (λ (x : ℕ). c.args.base % x) (cover_long c.args.order c.if-order.false) ∙ h.2)

pub returns : goal.returns
returns c =
    let wide = cover_long c.args.order c.if-order.false in
    let place : HasBitmap c.args.frames c.args.order c.args.base = (c.if-order.false, c.if-base-frames.false, sym (ap (λ (x : ℕ). c.args.base % x) wide) ∙ c.if-base-cover-ne0.false) in
    let number : c.below_order.result + c.args.base / (4096 * 2 ^ c.args.order % 18446744073709551616) ≡ bitmaps_below c.args.frames c.args.order + c.args.base / cover c.args.order =
    (λ i. c.below_order.ensures.value i + c.args.base / wide i) in
    (place, number, omega (arith, number, bit_index_count c.args.frames c.args.order c.args.base place))
