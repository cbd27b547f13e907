use Rattle.std.proofs.Common.{◌≡◌, ◌+◌, ◌-◌, ◌≤◌, length, drop, vec_len, vec_capacity}
use Rattle.file_folios.specs.Slots.{folios_in}
use Rattle.file_folios.proofs.Cutting.{Taking}
use Rattle.file_folios.proofs.slots.take_out.Given as goal

abbrev pub invariant-loop-at : goal.invariant-loop-at
invariant-loop-at l = Taking l.fn.from l.fn.slots.items l.fn.runs.items l.fn.given.items l.at l.slots.items l.runs.items l.given.items × (vec_len l.runs + length (folios_in (drop l.at l.fn.slots.items)) ≤ vec_capacity l.runs) × (vec_len l.given + length (folios_in (drop l.at l.fn.slots.items)) ≤ vec_capacity l.given) × (vec_capacity l.slots ≡ vec_capacity l.fn.slots)

abbrev pub decreases-loop-at : goal.decreases-loop-at
decreases-loop-at l = vec_len l.slots - l.at
