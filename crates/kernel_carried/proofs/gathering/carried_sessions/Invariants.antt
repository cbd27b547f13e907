use Rattle.std.proofs.Common.{map, take}
use Rattle.ho_world.specs.World.{World}
use Rattle.registry_core.specs.Outgoing.{with_number}
use Rattle.kernel_carried.specs.Gathered.{Agrees, AreSessionsOf}
use Rattle.kernel_carried.proofs.gathering.carried_sessions.Given as goal

-- the sessions so far are those of the names so far
abbrev pub invariant-loop-entry : goal.invariant-loop-entry
invariant-loop-entry l = (w : World) → Agrees w l.kernel.objects → AreSessionsOf l.kernel.objects w (map with_number (take l.entry-index l.names)) l.sessions.items
