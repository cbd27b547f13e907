use Rattle.std.proofs.Common.{◌≡◌, ◌≤◌, IfOk, map, length, subst}
use Rattle.std.specs.FinMap as finmap
use Rattle.ho_base.specs.declared.limits.TheConstants.{OUT_SLOTS}
use Rattle.registry_core.proofs.OutgoingNames.{few_listed, ok_so}
use Rattle.registry_core.proofs.RegistryRuns.{told_at}
use Rattle.registry_core.specs.Outgoing.{with_number}
use Rattle.registry_core.specs.RegistryShown.{outgoing_slot, slots_of}
use Rattle.registry_core.specs.RegistryValues.{RegistryIs}
use Rattle.registry_core.proofs.registry.Registry.outgoing.Goals as goal

pub returns-clause-exact : goal.returns-clause-exact
returns-clause-exact c =
    subst (λ v. RegistryIs v (λ s. IfOk c.listed.result (λ x. map with_number x.items ≡ finmap.entries s.outgoing))) c.self.view_is
    (told_at (λ s. IfOk c.listed.result (λ x. map with_number x.items ≡ finmap.entries s.outgoing)) _ _ _ c.self.invariant c.listed.ensures)

pub returns-clause-few : goal.returns-clause-few
returns-clause-few c =
    ok_so (λ x. map with_number x.items ≡ finmap.entries (slots_of outgoing_slot c.self.inside.parts.names.entries)) (λ x. length x.items ≤ OUT_SLOTS) c.listed.result
    (λ x h. few_listed _ _ _ x.items c.self.invariant h) c.listed.ensures
