use Rattle.std.proofs.Common.{◌≡◌, ◌≤◌, take, vec_len, vec_capacity}
use Rattle.phys_frames.specs.Memory.{first_frames}
use Rattle.pool_core.proofs.pool.list_firsts.Given as goal

-- the list has the first frames of the folios so far
abbrev pub invariant-loop-folio : goal.invariant-loop-folio
invariant-loop-folio l =
    (l.runs.items ≡ first_frames (take l.folio-index l.folios))
    × (vec_len l.runs ≡ l.folio-index)
    × (vec_capacity l.fn.runs ≤ vec_capacity l.runs)
