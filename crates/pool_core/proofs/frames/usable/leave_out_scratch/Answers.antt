use Rattle.std.proofs.Common.{◌+◌, ◌∙◌, sym, subst}
use Rattle.pool_core.specs.PoolFramesValues.{AreUsableBelow}
use Rattle.pool_core.proofs.PoolCold.{can_reserve, scratch_out}
use Rattle.pool_core.proofs.frames.usable.leave_out_scratch.Goals as goal

pub reserve-requires-clause-run : goal.reserve-requires-clause-run
reserve-requires-clause-run c = can_reserve c.args.shape.now c.args.p.0 c.args.set.now c.requires.later c.requires.below c.requires.before

pub returns-then-is_scratch : goal.returns-then-is_scratch
returns-then-is_scratch c =
    subst (AreUsableBelow c.args.shape.now (c.args.p.0 + 1)) (sym c.reserve.ensures)
    (scratch_out c.args.shape.now c.args.p.0 c.args.set.now c.requires.below (sym c.is_scratch.ensures ∙ c.if-is_scratch.true) c.requires.before)
