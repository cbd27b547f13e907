use Rattle.phys_frames.specs.Memory.{first_frames}
use Rattle.pool_core.proofs.PoolAsking.{give_then, give_else}
use Rattle.pool_core.proofs.frames.pool.PoolFrames.can_give.Goals as goal

pub returns-then-are_folios_different : goal.returns-then-are_folios_different
returns-then-are_folios_different c = give_then c.args.self.now.state c.args.order.0 (first_frames c.args.folios.now) c.are_folios_different.result c.are_folios_different.ensures c.are_folios_loose.result c.if-are_folios_different.true c.are_folios_loose.ensures

pub returns-else-are_folios_different : goal.returns-else-are_folios_different
returns-else-are_folios_different c = give_else c.args.self.now.state c.args.order.0 (first_frames c.args.folios.now) c.are_folios_different.result c.are_folios_different.ensures c.if-are_folios_different.false
