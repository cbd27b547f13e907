use Rattle.std.proofs.Common.{◌∙◌}
use Rattle.freeze_path.proofs.PoolShape.{pool_is}
use Rattle.freeze_path.proofs.ready.has_pool.Goals as goal

pub returns : goal.returns
returns c = pool_is c.args.kernel.now c.pool.result.now _ c.pool.ensures.at c.shape.ensures.state (c.shape.ensures.value ∙ c.pool.ensures.shape) c.scratch-areas.ensures.legal
