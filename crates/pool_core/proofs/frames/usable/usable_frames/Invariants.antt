use Rattle.pool_core.specs.PoolFramesValues.{AreUsableBelow}
use Rattle.pool_core.proofs.frames.usable.usable_frames.Given as goal

-- the scratch frames so far are taken out
abbrev pub invariant-loop-p : goal.invariant-loop-p
invariant-loop-p l = AreUsableBelow l.shape l.p l.set
