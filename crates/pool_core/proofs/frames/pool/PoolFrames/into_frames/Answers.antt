use Rattle.pool_core.proofs.PoolAsking.{free_told}
use Rattle.pool_core.proofs.frames.pool.PoolFrames.into_frames.Goals as goal

pub returns-clause-free : goal.returns-clause-free
returns-clause-free c = free_told c.self.inside.table c.self.inside.marks.runs c.args.self c.into_frames.result c.self.view_is c.into_frames.ensures.free
