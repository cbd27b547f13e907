use Rattle.std.proofs.Common.{◌≡◌, ◌+◌, ◌-◌, ◌≤◌, ◌++◌, replicate, vec_len, vec_capacity}
use Rattle.std.specs.Prelude.{None}
use Rattle.file_folios.proofs.slots.grow.Given as goal

abbrev pub invariant-loop-slots : goal.invariant-loop-slots
invariant-loop-slots l = (l.slots.items ≡ l.fn.slots.items ++ replicate (vec_len l.slots - vec_len l.fn.slots) None) × (vec_len l.fn.slots ≤ vec_len l.slots) × (vec_len l.slots ≤ vec_len l.fn.slots + (l.fn.count - vec_len l.fn.slots)) × (vec_capacity l.fn.slots ≤ vec_capacity l.slots)

abbrev pub decreases-loop-slots : goal.decreases-loop-slots
decreases-loop-slots l = l.count - vec_len l.slots
