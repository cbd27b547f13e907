use Rattle.std.proofs.Common.{◌≡◌, Some, ap, sym, subst}
use Rattle.ho_events.specs.Registry.{registry_step}
use Rattle.ho_events.specs.declared.entry.Entry.{Entry}
use Rattle.registry_core.proofs.RegistryRuns.{stay_keeps, keeps_run}
use Rattle.registry_core.specs.RegistryValues.{RegistryIs}
use Rattle.registry_core.proofs.registry.Registry.stay.Goals as goal

pub invariant_of-self : goal.invariant_of-self
invariant_of-self c =
    rw c.append_plain_turn.ensures.kept
    (stay_keeps _ _ _ _ c.args.event c.args.reply c.self.invariant (subst (λ v. RegistryIs v (λ s. registry_step s c.args.event c.args.reply ≡ Some s)) (sym c.self.view_is) c.requires.stays)
    (ap (λ (e : Entry). e.event) c.append_plain_turn.ensures.told) (ap (λ (e : Entry). e.reply) c.append_plain_turn.ensures.told))

pub returns-clause-run : goal.returns-clause-run
returns-clause-run c =
    rw c.append_plain_turn.ensures.kept
    (keeps_run _ _ _
    (stay_keeps _ _ _ _ c.args.event c.args.reply c.self.invariant (subst (λ v. RegistryIs v (λ s. registry_step s c.args.event c.args.reply ≡ Some s)) (sym c.self.view_is) c.requires.stays)
    (ap (λ (e : Entry). e.event) c.append_plain_turn.ensures.told) (ap (λ (e : Entry). e.reply) c.append_plain_turn.ensures.told)))
