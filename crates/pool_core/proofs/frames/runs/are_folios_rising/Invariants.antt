use Rattle.std.proofs.Common.{◌≡◌, length}
use Rattle.phys_frames.specs.Memory.{first_frames}
use Rattle.pool_core.specs.PoolFramesValues.{are_rising_from}
use Rattle.pool_core.proofs.frames.runs.are_folios_rising.Given as goal

-- those that are left rise exactly where all do
abbrev pub invariant-loop-folio : goal.invariant-loop-folio
invariant-loop-folio l = are_rising_from l.from (first_frames l.left) ≡ are_rising_from 0 (first_frames l.folios)

abbrev pub decreases-loop-folio : goal.decreases-loop-folio
decreases-loop-folio l = length l.left
