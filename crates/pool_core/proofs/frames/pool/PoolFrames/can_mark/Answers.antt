use Rattle.pool_core.proofs.PoolAsking.{give_then, give_else}
use Rattle.pool_core.proofs.frames.pool.PoolFrames.can_mark.Goals as goal

pub returns-then-are_all_different : goal.returns-then-are_all_different
returns-then-are_all_different c = give_then c.args.self.now.state c.args.order.0 c.args.runs.now c.are_all_different.result c.are_all_different.ensures c.are_loose.result c.if-are_all_different.true c.are_loose.ensures

pub returns-else-are_all_different : goal.returns-else-are_all_different
returns-else-are_all_different c = give_else c.args.self.now.state c.args.order.0 c.args.runs.now c.are_all_different.result c.are_all_different.ensures c.if-are_all_different.false
