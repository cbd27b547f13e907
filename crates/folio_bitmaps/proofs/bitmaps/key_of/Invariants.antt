use Rattle.std.proofs.Common.{◌≡◌, ◌+◌, ◌-◌, ◌≤◌}
use Rattle.ho_base.specs.BitmapCount.{bitmaps_below}
use Rattle.folio_bitmaps.proofs.bitmaps.key_of.Given as goal

abbrev pub invariant-loop-left : goal.invariant-loop-left
invariant-loop-left l = record { small : l.order ≤ 9; number : bitmaps_below l.frames l.order + l.left ≡ l.t }

abbrev pub decreases-loop-left : goal.decreases-loop-left
decreases-loop-left l = 9 - l.order
