use Rattle.std.proofs.Common.{◌∙◌, sym, ap, refl}
use Rattle.kho_writer.specs.Bounds.{frame_in}
use Rattle.kho_writer.proofs.BoundFrames.{found, passed, none_left}
use Rattle.kho_writer.proofs.bounds.bound_frame.Goals as goal

pub loop-bound-init : goal.loop-bound-init
loop-bound-init c = refl

pub loop-bound-preserved : goal.loop-bound-preserved
loop-bound-preserved c =
    sym (passed c.args.bounds.now c.loop-bound.bound-index c.bound-item.result c.args.kind c.loop-bound-test.true c.bound-item.is
    (λ same. c.if-kind_number.false (c.kind_number.ensures ∙ same ∙ sym c.kind_number-in-loop-bound.ensures)))
    ∙ c.loop-bound.invariant

pub returns-then-kind_number : goal.returns-then-kind_number
returns-then-kind_number c =
    ap frame_in
    (sym (found c.args.bounds.now c.loop-bound.bound-index c.bound-item.result c.args.kind c.loop-bound-test.true c.bound-item.is
    (sym c.kind_number.ensures ∙ c.if-kind_number.true ∙ c.kind_number-in-loop-bound.ensures))
    ∙ c.loop-bound.invariant)

pub returns : goal.returns
returns c = ap frame_in (sym (none_left c.args.bounds.now c.loop-bound.bound-index c.args.kind c.loop-bound-test.false) ∙ c.loop-bound.invariant)
