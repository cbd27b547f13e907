use Rattle.std.proofs.Common.{◌+◌, ◌-◌, ◌≤◌, length, drop, vec_len, vec_capacity}
use Rattle.file_folios.specs.Slots.{folios_in}
use Rattle.file_folios.proofs.Cutting.{Listing}
use Rattle.file_folios.proofs.slots.add_runs.Given as goal

abbrev pub invariant-loop-at : goal.invariant-loop-at
invariant-loop-at l = Listing l.fn.slots l.fn.runs.items l.at l.runs.items × (vec_len l.runs + length (folios_in (drop l.at l.slots)) ≤ vec_capacity l.runs)

abbrev pub decreases-loop-at : goal.decreases-loop-at
decreases-loop-at l = length l.slots - l.at
