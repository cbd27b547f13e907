use Rattle.std.proofs.Common.{◌≡◌, IfSome, subst}
use Rattle.std.specs.Prelude.{option_map}
use Rattle.std.specs.FinMap as finmap
use Rattle.ho_base.specs.declared.numbers.SlotNo.{SlotNo}
use Rattle.registry_core.proofs.IncomingSteps.{opened_told, opened_within, slot_in_ready}
use Rattle.registry_core.specs.RegistryValues.{RegistryIs, IsReady}
use Rattle.registry_core.proofs.registry.Registry.slot_in.Goals as goal

pub returns-clause-value : goal.returns-clause-value
returns-clause-value c =
    subst (λ v. RegistryIs v (λ s. finmap.get s.opened c.args.name ≡ option_map (λ (x : SlotNo). x.0) c.slots.result.opened)) c.self.view_is
    (opened_told _ _ _ c.args.name c.slots.result c.self.invariant c.slots.ensures)

pub returns-clause-within : goal.returns-clause-within
returns-clause-within c = opened_within _ _ _ c.args.name c.slots.result c.self.invariant c.slots.ensures

pub returns-clause-ready : goal.returns-clause-ready
returns-clause-ready c = subst (λ v. IfSome c.slots.result.opened (λ x. IsReady c.args.name v)) c.self.view_is (slot_in_ready _ c.args.name c.slots.result c.slots.ensures)
