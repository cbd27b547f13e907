use Rattle.std.proofs.Common.{arith, refl}
use Rattle.kho_records.specs.Chunks.{element_view}
use Rattle.kho_records.proofs.Flags.{no_order, not_marked, now_marked}
use Rattle.kho_records.proofs.owners.marked.look_at.Goals as goal

pub returns-then-marks : goal.returns-then-marks
returns-then-marks c =
    now_marked c.args.flags.now _ c.args.p c.first_at-first.result (element_view c.args.element.now) c.marks.result c.first_at-first.ensures c.marks.ensures c.if-marks.true
    (omega (arith, c.if-element-from.true, c.requires)) refl

pub returns-else-marks : goal.returns-else-marks
returns-else-marks c =
    not_marked c.args.flags.now c.args.p c.first_at-first.result (element_view c.args.element.now) c.marks.result c.first_at-first.ensures c.marks.ensures c.if-marks.false

pub returns-else-element-from : goal.returns-else-element-from
returns-else-element-from c = no_order c.args.flags.now c.args.p (element_view c.args.element.now) c.requires (omega (arith, c.if-element-from.false))
