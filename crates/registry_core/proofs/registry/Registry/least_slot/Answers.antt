use Rattle.std.proofs.Common.{◌≡◌, Some, subst}
use Rattle.ho_events.specs.Registry.{least_free_slot}
use Rattle.registry_core.proofs.RegistryRuns.{least_slot_told}
use Rattle.registry_core.specs.RegistryValues.{RegistryIs}
use Rattle.registry_core.proofs.registry.Registry.least_slot.Goals as goal

pub returns-clause-value : goal.returns-clause-value
returns-clause-value c =
    subst (λ v. RegistryIs v (λ s. least_free_slot s.outgoing ≡ Some c.in_ok-slot.slot)) c.self.view_is
    (least_slot_told _ _ _ (Some c.in_ok-slot.slot) c.self.invariant c.in_ok-slot.ensures.value)
