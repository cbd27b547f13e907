use Rattle.std.proofs.Common.{◌≡◌, ap, sym, subst, option_map}
use Rattle.std.specs.FinMap as finmap
use Rattle.ho_base.specs.declared.numbers.SlotNo.{SlotNo}
use Rattle.ho_events.specs.declared.entry.Entry.{Entry}
use Rattle.registry_core.proofs.RegistryRuns.{keeps_run, slotted, slotted_ready}
use Rattle.registry_core.proofs.RegistrySteps.{drop_keeps}
use Rattle.registry_core.specs.RegistryValues.{RegistryIs}
use Rattle.registry_core.proofs.registry.Registry.drop_name.Goals as goal

pub end_out-requires-clause-ready : goal.end_out-requires-clause-ready
end_out-requires-clause-ready c =
    slotted_ready _ _ _ c.args.name c.unwrap-slot.result.0 c.self.invariant
    (slotted _ _ _ c.args.name c.slot_of.result c.unwrap-slot.result c.self.invariant (subst (λ v. RegistryIs v (λ s. finmap.get s.outgoing c.args.name ≡ option_map (λ (x : SlotNo). x.0) c.slot_of.result)) (sym c.self.view_is) c.slot_of.ensures.value) c.unwrap-slot.ensures)

pub invariant_of-self : goal.invariant_of-self
invariant_of-self c =
    rw (c.append_plain_turn-turned.ensures.kept, c.end_out.ensures.taken, c.end_out.ensures.files)
    (drop_keeps _ _ _ _ c.self.invariant c.args.name c.unwrap-slot.result c.end_out.new.self.names.entries c.end_out.ensures.unique c.end_out.ensures.names.0
    (slotted _ _ _ c.args.name c.slot_of.result c.unwrap-slot.result c.self.invariant (subst (λ v. RegistryIs v (λ s. finmap.get s.outgoing c.args.name ≡ option_map (λ (x : SlotNo). x.0) c.slot_of.result)) (sym c.self.view_is) c.slot_of.ensures.value) c.unwrap-slot.ensures)
    (ap (λ (e : Entry). e.event) c.append_plain_turn-turned.ensures.told) (ap (λ (e : Entry). e.reply) c.append_plain_turn-turned.ensures.told))

pub returns-clause-run : goal.returns-clause-run
returns-clause-run c =
    rw c.append_plain_turn-turned.ensures.kept
    (keeps_run _ _ _
    (drop_keeps _ _ _ _ c.self.invariant c.args.name c.unwrap-slot.result c.end_out.new.self.names.entries c.end_out.ensures.unique c.end_out.ensures.names.0
    (slotted _ _ _ c.args.name c.slot_of.result c.unwrap-slot.result c.self.invariant (subst (λ v. RegistryIs v (λ s. finmap.get s.outgoing c.args.name ≡ option_map (λ (x : SlotNo). x.0) c.slot_of.result)) (sym c.self.view_is) c.slot_of.ensures.value) c.unwrap-slot.ensures)
    (ap (λ (e : Entry). e.event) c.append_plain_turn-turned.ensures.told) (ap (λ (e : Entry). e.reply) c.append_plain_turn-turned.ensures.told)))
