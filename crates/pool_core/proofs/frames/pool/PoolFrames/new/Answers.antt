use Rattle.pool_core.proofs.PoolCold.{cold_keeps, cold_pool_is}
use Rattle.pool_core.proofs.frames.pool.PoolFrames.new.Goals as goal

pub invariant_of-result : goal.invariant_of-result
invariant_of-result c =
    cold_keeps c.args.shape c.args.frames.home c.in-Ok-new-2.table c.in-Ok.buddy c.in-Ok-new.marks c.frames.result c.in-Ok-new-2.ensures.value c.in-Ok-new.ensures c.frames.ensures c.in-Ok.ensures

pub returns-in-Ok-new-2-clause-value : goal.returns-in-Ok-new-2-clause-value
returns-in-Ok-new-2-clause-value c =
    cold_pool_is c.args.shape c.args.frames.home c.in-Ok-new-2.table c.in-Ok-new.marks c.frames.result c.in-Ok-new-2.ensures.value c.in-Ok-new.ensures
