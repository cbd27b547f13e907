use Rattle.std.proofs.Common.{◌≡◌, ◌≤◌, vec_len, vec_capacity}
use Rattle.machine_core.specs.Building.{AreBuilt}
use Rattle.machine_core.proofs.building.add_free.Given as goal

-- the slots so far are built
abbrev pub invariant-loop-at : goal.invariant-loop-at
invariant-loop-at l =
    (vec_len l.objects ≡ l.at)
    × AreBuilt l.plan l.objects.items
    × (vec_capacity l.fn.objects ≤ vec_capacity l.objects)
