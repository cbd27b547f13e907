use Rattle.std.proofs.Common.{◌≡◌, ◌+◌, ◌≤◌, length}
use Rattle.file_folios.specs.Slots.{places, holes_in}
use Rattle.file_folios.proofs.slots.count_holes.Given as goal

abbrev pub invariant-loop-left : goal.invariant-loop-left
invariant-loop-left l = (l.holes + length (holes_in l.slots (places l.at l.left)) ≡ length (holes_in l.slots (places l.fn.from l.fn.count))) × (l.at + l.left ≡ l.fn.from + l.fn.count) × (l.holes + l.left ≤ l.fn.count)

abbrev pub decreases-loop-left : goal.decreases-loop-left
decreases-loop-left l = l.left
