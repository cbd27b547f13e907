use Rattle.std.proofs.Common.{◌≡◌, ◌+◌, ◌≤◌, length, map, Some, vec_len, vec_capacity}
use Rattle.std.specs.Vec.Iter.{into_iter_items, into_iter_len}
use Rattle.machine_core.specs.declared.object.Object.TheVariants as kind_of
use Rattle.machine_core.specs.Building.{AreBuilt, AreNext}
use Rattle.machine_core.proofs.building.add_waiting.Given as goal

-- the sessions so far are built, and those that are left come next
abbrev pub invariant-loop-session : goal.invariant-loop-session
invariant-loop-session l =
    AreBuilt l.plan l.objects.items
    × AreNext l.plan (vec_len l.objects) (map (λ s. Some (kind_of.Session s)) (into_iter_items l.rest))
    × (into_iter_len l.rest ≡ length (into_iter_items l.rest))
    × (vec_len l.objects + into_iter_len l.rest ≡ vec_len l.fn.objects + into_iter_len l.initial.rest)
    × (vec_capacity l.fn.objects ≤ vec_capacity l.objects)

abbrev pub decreases-loop-session : goal.decreases-loop-session
decreases-loop-session l = into_iter_len l.rest
