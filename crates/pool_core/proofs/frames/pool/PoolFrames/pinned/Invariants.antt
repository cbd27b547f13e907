use Rattle.std.proofs.Common.{◌≡◌, false}
use Rattle.pool_core.specs.PoolFramesValues.{any_pinned}
use Rattle.pool_core.proofs.frames.pool.PoolFrames.pinned.Given as goal

-- none of the frames so far is pinned
abbrev pub invariant-loop-i : goal.invariant-loop-i
invariant-loop-i l = any_pinned l.self.state.pinned l.first.0 l.i ≡ false
