use Rattle.std.proofs.Common.{◌≡◌, ◌+◌, ◌≤◌, reverse, vec_len, vec_capacity}
use Rattle.file_folios.proofs.Filling.{Filling}
use Rattle.file_folios.proofs.slots.fill_holes.Given as goal

abbrev pub invariant-loop-left : goal.invariant-loop-left
invariant-loop-left l = Filling l.fn.home.value l.fn.order l.fn.piece l.fn.from l.fn.count l.fn.fills.items l.fn.slots.items l.at l.left (reverse l.fills.items) l.runs.items l.slots.items × (vec_len l.runs + vec_len l.fills ≤ vec_capacity l.runs) × (vec_capacity l.slots ≡ vec_capacity l.fn.slots)

abbrev pub decreases-loop-left : goal.decreases-loop-left
decreases-loop-left l = l.left
