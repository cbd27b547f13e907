use Rattle.std.proofs.Common.{arith}
use Rattle.pool_core.proofs.PoolCold.{first_below, all_usable}
use Rattle.pool_core.proofs.frames.usable.usable_frames.Goals as goal

pub loop-p-init : goal.loop-p-init
loop-p-init c = first_below c.args.shape.now c.in_ok-set.set c.frames.result c.in_ok-set.ensures c.frames.ensures

pub returns : goal.returns
returns c = all_usable c.args.shape.now c.loop-p.set c.loop-p.p (omega (arith, c.loop-p-test.false, c.frames-p-end.ensures)) c.loop-p.invariant
