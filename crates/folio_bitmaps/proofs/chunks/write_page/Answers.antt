use Rattle.std.proofs.Common.{◌≡◌, ap, ◌∙◌, arith, rules, ℕ, length, replicate}
use Rattle.ho_base.specs.BitmapCount.{bitmap_count}
use Rattle.folio_bitmaps.specs.Bitmaps.{runs_of}
use Rattle.folio_bitmaps.specs.Written.{full_count}
use Rattle.folio_bitmaps.proofs.Pages.{part_begins, part_more, part_done}
use Rattle.folio_bitmaps.proofs.chunks.write_page.Goals as goal

pub overflow_sub-below_order : goal.overflow_sub-below_order
unfolding bitmap_count
overflow_sub-below_order c = omega (arith, c.requires.chunk, c.below_order.ensures.value)

total : (c : goal.After-loop-k) → c.min-count.result ≡ full_count c.args.frames c.args.i
unfolding bitmap_count
total c = omega (arith, c.min-count.ensures, c.below_order.ensures.value)

pub loop-k-init : goal.loop-k-init
loop-k-init c =
    let filled : c.fill.new.self ≡ replicate (length c.args.page.now) 0 = search rules in
    let blank : c.fill.new.self ≡ replicate 4096 0 = filled ∙ ap (λ (m : ℕ). replicate {A = ℕ} m 0) c.requires.size in
    part_begins c.args.frames (runs_of c.args.frames c.args.bytes.now) c.args.i c.args.next c.min-count.result c.fill.new.self c.put_u64.new.bytes c.put_u64-2.new.bytes
    blank c.put_u64.ensures.replaced c.put_u64.ensures.spelled c.put_u64-2.ensures.replaced c.put_u64-2.ensures.spelled

pub write_element-requires-clause-number : goal.write_element-requires-clause-number
unfolding bitmap_count
write_element-requires-clause-number c = omega (arith, c.min-count.ensures, c.below_order.ensures.value)

pub loop-k-preserved : goal.loop-k-preserved
loop-k-preserved c =
    part_more c.args.frames (runs_of c.args.frames c.args.bytes.now) c.args.i c.args.next c.min-count.result c.loop-k.k c.loop-k.page c.write_element.new.page
    (omega (arith, c.min-count.ensures)) c.loop-k.invariant c.write_element.ensures.size c.write_element.ensures.before c.write_element.ensures.element c.write_element.ensures.after

pub returns : goal.returns
returns c =
    part_done c.args.frames (runs_of c.args.frames c.args.bytes.now) c.args.i c.args.next c.min-count.result c.loop-k.k c.loop-k.page c.loop-k.invariant (total c) (omega (arith, total c))
