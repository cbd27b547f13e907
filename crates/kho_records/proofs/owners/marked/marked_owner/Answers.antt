use Rattle.std.proofs.Common.{Bool, cond, refl, ap, ◌∙◌}
use Rattle.record_frames.specs.Sheets.{items_of}
use Rattle.kho_records.specs.Chunks.{chunk_views}
use Rattle.kho_records.specs.declared.owners.owner.Owner.TheVariants.{Run as One}
use Rattle.kho_records.specs.Owner.{joined, marked_below}
use Rattle.kho_records.proofs.Flags.{flags_are}
use Rattle.kho_records.proofs.Marks.{marked_more}
use Rattle.kho_records.proofs.owners.marked.marked_owner.Goals as goal

pub loop-order-init : goal.loop-order-init
unfolding marked_below
loop-order-init c = refl

pub loop-order-preserved : goal.loop-order-preserved
loop-order-preserved c =
    marked_more (items_of (chunk_views c.args.chunks.now)) c.args.p c.loop-order.order c.first_at-first.result c.loop-order.marked c.with_run-marked.result c.loop-order.invariant
    c.first_at-first.ensures
    (c.with_run-marked.ensures
    ∙ ap (λ (b : Bool). cond b (joined c.loop-order.marked (One c.first_at-first.result c.loop-order.order)) c.loop-order.marked)
    (flags_are c.args.chunks.now c.args.p c.loop-order.order c.first_at-first.result _ c.look_at_all.new.flags refl c.loop-order-test.true c.first_at-first.ensures
    (c.look_at_all.ensures c.loop-order.order c.loop-order-test.true)))
