use Rattle.std.proofs.Common.{◌≡◌, Some, ap, sym, subst}
use Rattle.ho_events.specs.Registry.{least_free_file}
use Rattle.ho_events.specs.declared.entry.Entry.{Entry}
use Rattle.registry_core.proofs.RegistryRuns.{keeps_run}
use Rattle.registry_core.proofs.RegistrySteps.{file_keeps}
use Rattle.registry_core.specs.RegistryValues.{RegistryIs}
use Rattle.registry_core.proofs.registry.Registry.take_file.Goals as goal

pub invariant_of-self : goal.invariant_of-self
invariant_of-self c =
    rw (c.append_plain_turn.ensures.kept, c.take.ensures)
    (file_keeps _ _ _ _ c.args.file c.self.invariant (subst (λ v. RegistryIs v (λ s. least_free_file s.files ≡ Some c.args.file.0)) (sym c.self.view_is) c.requires.least) c.requires.within
    (ap (λ (e : Entry). e.event) c.append_plain_turn.ensures.told) (ap (λ (e : Entry). e.reply) c.append_plain_turn.ensures.told))

pub returns-clause-run : goal.returns-clause-run
returns-clause-run c =
    rw c.append_plain_turn.ensures.kept
    (keeps_run _ _ _
    (file_keeps _ _ _ _ c.args.file c.self.invariant (subst (λ v. RegistryIs v (λ s. least_free_file s.files ≡ Some c.args.file.0)) (sym c.self.view_is) c.requires.least) c.requires.within
    (ap (λ (e : Entry). e.event) c.append_plain_turn.ensures.told) (ap (λ (e : Entry). e.reply) c.append_plain_turn.ensures.told)))
