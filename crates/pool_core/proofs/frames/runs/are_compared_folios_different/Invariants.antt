use Rattle.std.proofs.Common.{◌≡◌, length}
use Rattle.phys_frames.specs.Memory.{first_frames}
use Rattle.pool_core.specs.PoolFramesValues.{are_different}
use Rattle.pool_core.proofs.frames.runs.are_compared_folios_different.Given as goal

-- those that are left are different exactly where all are
abbrev pub invariant-loop-folio : goal.invariant-loop-folio
invariant-loop-folio l = are_different (first_frames l.left) ≡ are_different (first_frames l.folios)

abbrev pub decreases-loop-folio : goal.decreases-loop-folio
decreases-loop-folio l = length l.left
