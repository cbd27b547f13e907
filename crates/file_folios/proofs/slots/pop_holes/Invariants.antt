use Rattle.std.proofs.Common.{◌≡◌, ◌-◌, ◌≤◌, take, drop, replicate, vec_len, vec_capacity}
use Rattle.std.specs.Prelude.{None}
use Rattle.file_folios.proofs.slots.pop_holes.Given as goal

abbrev pub invariant-loop-slots : goal.invariant-loop-slots
invariant-loop-slots l = (take l.count l.slots.items ≡ take l.count l.fn.slots.items) × (drop l.count l.slots.items ≡ replicate (vec_len l.slots - l.count) None) × (l.count ≤ vec_len l.slots) × (vec_capacity l.slots ≡ vec_capacity l.fn.slots)

abbrev pub decreases-loop-slots : goal.decreases-loop-slots
decreases-loop-slots l = vec_len l.slots
