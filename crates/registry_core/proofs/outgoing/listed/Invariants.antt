use Rattle.std.proofs.Common.{◌≡◌, ◌≤◌, length, map, drop}
use Rattle.std.specs.FinMap as finmap
use Rattle.std.specs.List.{IsDistinct}
use Rattle.std.specs.Map.{keys_of}
use Rattle.ho_events.specs.Lists.{same_bytes}
use Rattle.registry_core.specs.Outgoing.{with_number}
use Rattle.registry_core.specs.RegistryShown.{outgoing_slot, slots_of}
use Rattle.registry_core.proofs.outgoing.listed.Given as goal

-- the names from a place on are listed
abbrev pub invariant-loop-i : goal.invariant-loop-i
invariant-loop-i l =
    (l.i ≤ length l.names.entries)
    × (map with_number l.listed.items ≡ finmap.entries (slots_of outgoing_slot (drop l.i l.names.entries)))
    × IsDistinct same_bytes (keys_of l.names.entries)

abbrev pub decreases-loop-i : goal.decreases-loop-i
decreases-loop-i l = l.i
