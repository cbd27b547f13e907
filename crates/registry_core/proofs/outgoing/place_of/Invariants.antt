use Rattle.std.proofs.Common.{◌≡◌, ◌+◌, ◌-◌, ◌≤◌, length, drop}
use Rattle.registry_core.specs.Outgoing.{smaller_names}
use Rattle.registry_core.proofs.outgoing.place_of.Given as goal

-- the names so far are smaller
abbrev pub invariant-loop-i : goal.invariant-loop-i
invariant-loop-i l = (l.i ≤ length l.listed) × (smaller_names l.name l.listed ≡ l.i + smaller_names l.name (drop l.i l.listed))

abbrev pub decreases-loop-i : goal.decreases-loop-i
decreases-loop-i l = length l.listed - l.i
