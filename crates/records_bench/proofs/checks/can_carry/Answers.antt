use Rattle.std.proofs.Common.{refl, sym, ◌∙◌}
use Rattle.records_bench.proofs.CarrySteps.{state_can_at}
use Rattle.records_bench.proofs.checks.can_carry.Goals as goal

pub returns-clause-can : goal.returns-clause-can
returns-clause-can c = λ h.
    state_can_at c.args.carried.now c.frames.result c.as_slice-2.result.now c.scratch-legal.ensures.legal (sym c.if-not-may_be_handed_on.ensures)
    (sym c.as_slice.ensures ∙ c.if-not-are_none.ensures refl) c.frames.ensures c.as_slice-2.ensures (c.are_carried.ensures.can h) (c.are_carried.ensures.memfds h)
