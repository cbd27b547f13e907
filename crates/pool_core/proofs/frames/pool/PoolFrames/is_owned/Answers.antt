use Rattle.pool_core.proofs.PoolAsking.{held_told}
use Rattle.pool_core.proofs.frames.pool.PoolFrames.is_owned.Goals as goal

pub returns : goal.returns
returns c = held_told c.self.inside.table c.self.inside.marks.runs c.args.self.now c.self.view_is c.args.p.0 c.holds.result c.holds.ensures
