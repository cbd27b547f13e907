use Rattle.pool_core.proofs.PoolAsking.{kept_then, kept_else}
use Rattle.pool_core.proofs.frames.pool.PoolFrames.is_kept.Goals as goal

pub returns-then-begins : goal.returns-then-begins
returns-then-begins c =
    kept_then c.self.inside.table c.self.inside.buddy c.self.inside.marks c.args.self.now c.self.invariant c.self.view_is c.args.order.0 c.args.run.0 c.begins.result c.begins.ensures c.has.result c.if-begins.true c.has.ensures

pub returns-else-begins : goal.returns-else-begins
returns-else-begins c =
    kept_else c.self.inside.table c.self.inside.buddy c.self.inside.marks c.args.self.now c.self.invariant c.self.view_is c.args.order.0 c.args.run.0 c.begins.result c.begins.ensures c.if-begins.false
