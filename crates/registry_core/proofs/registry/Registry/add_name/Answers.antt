use Rattle.std.proofs.Common.{◌≡◌, None, Some, ap, sym, subst, ◌∙◌}
use Rattle.std.specs.FinMap as finmap
use Rattle.std.specs.FinSet as finset
use Rattle.ho_events.specs.Registry.{least_free_slot}
use Rattle.ho_events.specs.declared.entry.Entry.{Entry}
use Rattle.registry_core.proofs.RegistryRuns.{keeps_run}
use Rattle.registry_core.proofs.RegistrySteps.{name_keeps}
use Rattle.registry_core.proofs.SlotMaps.{names_written}
use Rattle.registry_core.specs.RegistryValues.{RegistryValue, RegistryIs}
use Rattle.registry_core.proofs.registry.Registry.add_name.Goals as goal

pub invariant_of-self : goal.invariant_of-self
invariant_of-self c =
    rw (c.append_plain_turn.ensures.kept, c.put_out.ensures.taken, c.put_out.ensures.files)
    (name_keeps _ _ _ _ c.self.invariant c.args.name c.args.slot c.put_out.new.self.names.entries c.put_out.ensures.unique c.put_out.ensures.names.0
    (subst (λ v. RegistryIs v (λ s. finmap.get s.outgoing c.args.name ≡ None)) (sym c.self.view_is) c.requires.new)
    (subst (λ v. RegistryIs v (λ s. least_free_slot s.outgoing ≡ Some c.args.slot.0)) (sym c.self.view_is) c.requires.least) c.requires.within
    (ap (λ (e : Entry). e.event) c.append_plain_turn.ensures.told) (ap (λ (e : Entry). e.reply) c.append_plain_turn.ensures.told))

pub returns-clause-ready : goal.returns-clause-ready
returns-clause-ready c =
    names_written c.self.inside.parts.names.entries c.put_out.new.self.names.entries c.args.name _ c.put_out.ensures.names.0
    ∙ ap (λ (v : RegistryValue). finset.insert v.ready c.args.name) c.self.view_is

pub returns-clause-run : goal.returns-clause-run
returns-clause-run c =
    rw c.append_plain_turn.ensures.kept
    (keeps_run _ _ _
    (name_keeps _ _ _ _ c.self.invariant c.args.name c.args.slot c.put_out.new.self.names.entries c.put_out.ensures.unique c.put_out.ensures.names.0
    (subst (λ v. RegistryIs v (λ s. finmap.get s.outgoing c.args.name ≡ None)) (sym c.self.view_is) c.requires.new)
    (subst (λ v. RegistryIs v (λ s. least_free_slot s.outgoing ≡ Some c.args.slot.0)) (sym c.self.view_is) c.requires.least) c.requires.within
    (ap (λ (e : Entry). e.event) c.append_plain_turn.ensures.told) (ap (λ (e : Entry). e.reply) c.append_plain_turn.ensures.told)))
