use Rattle.std.proofs.Common.{◌≡◌, subst}
use Rattle.std.specs.Prelude.{option_map}
use Rattle.std.specs.FinMap as finmap
use Rattle.ho_base.specs.declared.numbers.SlotNo.{SlotNo}
use Rattle.registry_core.proofs.IncomingSteps.{waiting_told, waiting_within}
use Rattle.registry_core.specs.RegistryValues.{RegistryIs}
use Rattle.registry_core.proofs.registry.Registry.slot_waiting.Goals as goal

pub returns-clause-value : goal.returns-clause-value
returns-clause-value c =
    subst (λ v. RegistryIs v (λ s. finmap.get s.waiting c.args.name ≡ option_map (λ (x : SlotNo). x.0) c.slots.result.waiting)) c.self.view_is
    (waiting_told _ _ _ c.args.name c.slots.result c.self.invariant c.slots.ensures)

pub returns-clause-within : goal.returns-clause-within
returns-clause-within c = waiting_within _ _ _ c.args.name c.slots.result c.self.invariant c.slots.ensures
