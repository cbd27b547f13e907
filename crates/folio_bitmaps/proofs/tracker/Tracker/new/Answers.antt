use Rattle.std.proofs.Common.{◌≡◌, ◌*◌, replicate, ap, rules}
use Rattle.ho_base.specs.BitmapCount.{bitmap_count}
use Rattle.folio_bitmaps.proofs.Marked as marked
use Rattle.folio_bitmaps.proofs.tracker.Tracker.new.Goals as goal

filled : goal.In-Ok → Unit {0}
filled c = tt

pub invariant_of-result : goal.invariant_of-result
unfolding bitmap_count
invariant_of-result c =
    let e : c.in-Ok.bytes.items ≡ replicate (512 * c.below_order.result) 0 = search rules in
    marked.zero_bitmaps c.args.frames c.in-Ok.bytes.items (512 * c.below_order.result) e (ap (λ x. 512 * x) c.below_order.ensures.value)

pub returns-in-Ok : goal.returns-in-Ok
returns-in-Ok c =
    let e : c.in-Ok.bytes.items ≡ replicate (512 * c.below_order.result) 0 = search rules in
    ap (λ x. record { frames = c.args.frames; runs = x }) (marked.zero_runs c.args.frames c.in-Ok.bytes.items (512 * c.below_order.result) e)
