use Rattle.std.proofs.Common.{ap, sym, subst}
use Rattle.registry_core.specs.Registries.{IsInUse}
use Rattle.ho_events.specs.declared.entry.Entry.{Entry}
use Rattle.registry_core.proofs.RegistryRuns.{keeps_run}
use Rattle.registry_core.proofs.RegistrySteps.{free_keeps}
use Rattle.registry_core.specs.RegistryValues.{RegistryIs}
use Rattle.registry_core.proofs.registry.Registry.free_file.Goals as goal

pub invariant_of-self : goal.invariant_of-self
invariant_of-self c =
    rw (c.append_plain_turn-turned.ensures.kept, c.give.ensures)
    (free_keeps _ _ _ _ c.args.file c.self.invariant (subst (λ v. RegistryIs v (IsInUse c.args.file.0)) (sym c.self.view_is) c.requires.in_use) c.requires.within
    (ap (λ (e : Entry). e.event) c.append_plain_turn-turned.ensures.told) (ap (λ (e : Entry). e.reply) c.append_plain_turn-turned.ensures.told))

pub returns-clause-run : goal.returns-clause-run
returns-clause-run c =
    rw c.append_plain_turn-turned.ensures.kept
    (keeps_run _ _ _
    (free_keeps _ _ _ _ c.args.file c.self.invariant (subst (λ v. RegistryIs v (IsInUse c.args.file.0)) (sym c.self.view_is) c.requires.in_use) c.requires.within
    (ap (λ (e : Entry). e.event) c.append_plain_turn-turned.ensures.told) (ap (λ (e : Entry). e.reply) c.append_plain_turn-turned.ensures.told)))
