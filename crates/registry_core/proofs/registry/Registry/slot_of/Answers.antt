use Rattle.std.proofs.Common.{◌≡◌, IfSome, subst}
use Rattle.std.specs.Prelude.{option_map}
use Rattle.std.specs.FinMap as finmap
use Rattle.ho_base.specs.declared.numbers.SlotNo.{SlotNo}
use Rattle.registry_core.proofs.RegistryRuns.{slot_told, slot_fits, slot_ready}
use Rattle.registry_core.specs.RegistryValues.{RegistryIs, IsReady}
use Rattle.registry_core.proofs.registry.Registry.slot_of.Goals as goal

pub returns-clause-value : goal.returns-clause-value
returns-clause-value c =
    subst (λ v. RegistryIs v (λ s. finmap.get s.outgoing c.args.name ≡ option_map (λ (x : SlotNo). x.0) c.slots.result.outgoing)) c.self.view_is
    (slot_told _ _ _ c.args.name c.slots.result c.self.invariant c.slots.ensures)

pub returns-clause-within : goal.returns-clause-within
returns-clause-within c = slot_fits _ _ _ c.args.name c.slots.result c.self.invariant c.slots.ensures

pub returns-clause-ready : goal.returns-clause-ready
returns-clause-ready c = subst (λ v. IfSome c.slots.result.outgoing (λ x. IsReady c.args.name v)) c.self.view_is (slot_ready _ _ _ c.args.name c.slots.result c.self.invariant c.slots.ensures)
