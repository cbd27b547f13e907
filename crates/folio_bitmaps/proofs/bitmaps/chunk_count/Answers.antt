use Rattle.std.proofs.Common.{◌≡◌, ℕ, ap, ◌∙◌, ◌+◌, ◌/◌, arith}
use Rattle.std.specs.Int.{div_ceil}
use Rattle.ho_base.specs.BitmapCount.{bitmap_count}
use Rattle.folio_bitmaps.proofs.bitmaps.chunk_count.Goals as goal

-- dividing by 7 and rounding up
rounded : (x : ℕ) → div_ceil x 7 ≡ (x + 6) / 7
rounded x = omega arith

pub returns : goal.returns
unfolding bitmap_count
returns c = c.div_ceil.ensures ∙ rounded c.below_order.result ∙ ap (λ x. (x + 6) / 7) c.below_order.ensures.value
