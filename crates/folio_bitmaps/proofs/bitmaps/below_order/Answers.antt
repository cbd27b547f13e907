use Rattle.std.proofs.Common.{refl, arith, rules}
use Rattle.ho_base.specs.BitmapCount.{bitmaps_below}
use Rattle.folio_bitmaps.proofs.Counts.{below_next}
use Rattle.folio_bitmaps.proofs.bitmaps.below_order.Goals as goal

pub loop-o-init : goal.loop-o-init
unfolding bitmaps_below
loop-o-init c = record { value = refl; few = search rules }

pub loop-o-preserved : goal.loop-o-preserved
loop-o-preserved c = record {
  value = omega (arith, below_next c.args.frames c.loop-o.o, c.loop-o.invariant.value, c.of_order-count.ensures.value);
  few = omega (arith, c.loop-o.invariant.few, c.of_order-count.ensures.few);
}
