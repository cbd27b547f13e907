use Rattle.std.proofs.Common.{◌≡◌, ◌+◌, ◌≤◌, ◌++◌, length, map, Some}
use Rattle.std.specs.Vec.{vec_capacity}
use Rattle.std.specs.Vec.Iter.{into_iter_items, into_iter_len}
use Rattle.turns_table.proofs.rows.to_slots.Given as goal

-- the slots that are made, and what is left of the objects, are all objects
abbrev pub invariant-loop-object : goal.invariant-loop-object
invariant-loop-object g l = (l.slots.items ++ map (λ x. Some x) (into_iter_items l.rest) ≡ map (λ x. Some x) (into_iter_items l.initial.rest)) × (into_iter_len l.rest ≡ length (into_iter_items l.rest))
    × (length l.slots.items + length (into_iter_items l.rest) ≤ vec_capacity l.slots)

abbrev pub decreases-loop-object : goal.decreases-loop-object
decreases-loop-object g l = into_iter_len l.rest
