use Rattle.std.proofs.Common.{arith, sym, ◌∙◌}
use Rattle.registry_core.proofs.OutgoingNames.{smaller_step, smaller_stop, smaller_end}
use Rattle.registry_core.proofs.outgoing.place_of.Goals as goal

pub loop-i-preserved : goal.loop-i-preserved
loop-i-preserved c =
    let next = smaller_step c.args.name c.loop-i.i c.args.listed.now _ c.loop-i-test.true (sym c.is_after.ensures ∙ c.if-is_after.true) in
    (omega (arith, c.loop-i-test.true), omega (arith, c.loop-i.invariant.1, next))

pub returns-else-is_after-clause-place : goal.returns-else-is_after-clause-place
returns-else-is_after-clause-place c =
    let next = smaller_stop c.args.name c.loop-i.i c.args.listed.now _ c.loop-i-test.true (sym c.is_after.ensures ∙ c.if-is_after.false) in
    omega (arith, c.loop-i.invariant.1, next)

pub returns-after-loop-i-clause-place : goal.returns-after-loop-i-clause-place
returns-after-loop-i-clause-place c =
    let next = smaller_end c.args.name c.loop-i.i c.args.listed.now c.loop-i-test.false in
    omega (arith, c.loop-i.invariant.1, next)
