use Rattle.std.proofs.Common.{ap, sym, subst}
use Rattle.ho_events.specs.declared.entry.Entry.{Entry}
use Rattle.registry_core.proofs.RegistryRuns.{keeps_run}
use Rattle.registry_core.proofs.IncomingSteps.{drop_in_keeps, opened_ready}
use Rattle.registry_core.specs.Registries.{IsOpened}
use Rattle.registry_core.specs.RegistryValues.{RegistryIs}
use Rattle.registry_core.proofs.registry.Registry.drop_in.Goals as goal

pub end_in-requires : goal.end_in-requires
end_in-requires c = record {
  ready = opened_ready _ _ _ c.args.name c.self.invariant (subst (λ v. RegistryIs v (IsOpened c.args.name)) (sym c.self.view_is) c.requires.opened);
}

pub invariant_of-self : goal.invariant_of-self
invariant_of-self c =
    rw (c.append_plain_turn-turned.ensures.kept, c.end_in.ensures.taken, c.end_in.ensures.files)
    (drop_in_keeps _ _ _ _ c.self.invariant c.args.name c.end_in.new.self.names.entries c.end_in.ensures.unique c.end_in.ensures.names.0
    (subst (λ v. RegistryIs v (IsOpened c.args.name)) (sym c.self.view_is) c.requires.opened)
    (ap (λ (e : Entry). e.event) c.append_plain_turn-turned.ensures.told) (ap (λ (e : Entry). e.reply) c.append_plain_turn-turned.ensures.told))

pub returns-clause-run : goal.returns-clause-run
returns-clause-run c =
    rw c.append_plain_turn-turned.ensures.kept
    (keeps_run _ _ _
    (drop_in_keeps _ _ _ _ c.self.invariant c.args.name c.end_in.new.self.names.entries c.end_in.ensures.unique c.end_in.ensures.names.0
    (subst (λ v. RegistryIs v (IsOpened c.args.name)) (sym c.self.view_is) c.requires.opened)
    (ap (λ (e : Entry). e.event) c.append_plain_turn-turned.ensures.told) (ap (λ (e : Entry). e.reply) c.append_plain_turn-turned.ensures.told)))
