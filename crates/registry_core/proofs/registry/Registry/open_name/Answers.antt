use Rattle.std.proofs.Common.{◌≡◌, None, Some, ap, sym, subst}
use Rattle.std.specs.FinMap as finmap
use Rattle.ho_events.specs.declared.entry.Entry.{Entry}
use Rattle.registry_core.proofs.RegistryRuns.{keeps_run}
use Rattle.registry_core.proofs.IncomingSteps.{open_keeps, waiting_ready}
use Rattle.registry_core.specs.RegistryValues.{RegistryIs}
use Rattle.registry_core.proofs.registry.Registry.open_name.Goals as goal

pub open-requires : goal.open-requires
open-requires c = record {
  ready = waiting_ready _ _ _ c.args.name c.args.slot.0 c.self.invariant (subst (λ v. RegistryIs v (λ s. finmap.get s.waiting c.args.name ≡ Some c.args.slot.0)) (sym c.self.view_is) c.requires.waits);
}

pub invariant_of-self : goal.invariant_of-self
invariant_of-self c =
    rw (c.append_plain_turn.ensures.kept, c.open.ensures.taken, c.open.ensures.files)
    (open_keeps _ _ _ _ c.self.invariant c.args.name c.open.new.self.names.entries c.open.ensures.unique c.args.slot c.open.ensures.names.0
    (subst (λ v. RegistryIs v (λ s. finmap.get s.opened c.args.name ≡ None)) (sym c.self.view_is) c.requires.closed)
    (subst (λ v. RegistryIs v (λ s. finmap.get s.waiting c.args.name ≡ Some c.args.slot.0)) (sym c.self.view_is) c.requires.waits) c.requires.within
    (ap (λ (e : Entry). e.event) c.append_plain_turn.ensures.told) (ap (λ (e : Entry). e.reply) c.append_plain_turn.ensures.told))

pub returns-clause-run : goal.returns-clause-run
returns-clause-run c =
    rw c.append_plain_turn.ensures.kept
    (keeps_run _ _ _
    (open_keeps _ _ _ _ c.self.invariant c.args.name c.open.new.self.names.entries c.open.ensures.unique c.args.slot c.open.ensures.names.0
    (subst (λ v. RegistryIs v (λ s. finmap.get s.opened c.args.name ≡ None)) (sym c.self.view_is) c.requires.closed)
    (subst (λ v. RegistryIs v (λ s. finmap.get s.waiting c.args.name ≡ Some c.args.slot.0)) (sym c.self.view_is) c.requires.waits) c.requires.within
    (ap (λ (e : Entry). e.event) c.append_plain_turn.ensures.told) (ap (λ (e : Entry). e.reply) c.append_plain_turn.ensures.told)))
