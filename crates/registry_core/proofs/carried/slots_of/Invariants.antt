use Rattle.indexmap.specs.IndexMap.{spare}
use Rattle.registry_core.proofs.WaitingNames.{AreSlotted}
use Rattle.registry_core.proofs.carried.slots_of.Given as goal

-- the names so far have their slots
abbrev pub invariant-loop-name : goal.invariant-loop-name
invariant-loop-name l = AreSlotted l.names l.name-index l.slot (spare l.slotted) l.slotted.entries
