use Rattle.pool_core.proofs.PoolAsking.{unmark_then, unmark_else}
use Rattle.pool_core.proofs.frames.pool.PoolFrames.can_unmark.Goals as goal

pub returns-then-are_all_different : goal.returns-then-are_all_different
returns-then-are_all_different c = unmark_then c.args.self.now.state c.args.order.0 c.args.runs.now c.are_all_different.result c.are_all_different.ensures c.are_kept.result c.if-are_all_different.true c.are_kept.ensures

pub returns-else-are_all_different : goal.returns-else-are_all_different
returns-else-are_all_different c = unmark_else c.args.self.now.state c.args.order.0 c.args.runs.now c.are_all_different.result c.are_all_different.ensures c.if-are_all_different.false
