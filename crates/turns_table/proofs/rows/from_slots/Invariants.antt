use Rattle.std.proofs.Common.{◌≡◌, ◌+◌, ◌≤◌, ◌++◌, length, map, Some}
use Rattle.std.specs.Vec.{vec_capacity}
use Rattle.std.specs.Vec.Iter.{into_iter_items, into_iter_len}
use Rattle.turns_table.proofs.rows.from_slots.Given as goal

-- the objects in the room, and what is left of the slots, are all slots
abbrev pub invariant-loop-slot : goal.invariant-loop-slot
invariant-loop-slot g l = (map (λ x. Some x) l.room.items ++ into_iter_items l.rest ≡ into_iter_items l.initial.rest) × (into_iter_len l.rest ≡ length (into_iter_items l.rest))
    × (length l.room.items + length (into_iter_items l.rest) ≤ vec_capacity l.room)

abbrev pub decreases-loop-slot : goal.decreases-loop-slot
decreases-loop-slot g l = into_iter_len l.rest
