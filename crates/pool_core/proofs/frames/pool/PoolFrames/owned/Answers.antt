use Rattle.pool_core.proofs.PoolAsking.{owned_told}
use Rattle.pool_core.proofs.frames.pool.PoolFrames.owned.Goals as goal

pub returns : goal.returns
returns c = owned_told c.self.inside.table c.self.inside.buddy c.self.inside.marks c.args.self.now c.self.invariant c.self.view_is c.args.order.0 c.args.first.0 c.begins.result c.begins.ensures
