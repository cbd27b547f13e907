use Rattle.std.proofs.Common.{◌≡◌, ◌*◌, ◌^◌, ◌≤◌}
use Rattle.ho_base.specs.BitmapCount.{bitmaps_below}
use Rattle.folio_bitmaps.proofs.bitmaps.below_order.Given as goal

abbrev pub invariant-loop-o : goal.invariant-loop-o
invariant-loop-o l = record { value : l.count ≡ bitmaps_below l.frames l.o; few : l.count ≤ l.o * 2 ^ 20 }
