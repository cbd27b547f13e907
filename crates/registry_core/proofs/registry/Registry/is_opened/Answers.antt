use Rattle.std.proofs.Common.{IsTrue, is_some, ◌↔◌, subst}
use Rattle.registry_core.proofs.WaitingNames.{opened_told}
use Rattle.registry_core.specs.Registries.{IsOpened}
use Rattle.registry_core.specs.RegistryValues.{RegistryIs}
use Rattle.registry_core.proofs.registry.Registry.is_opened.Goals as goal

pub returns : goal.returns
returns c =
    rw c.is_some.ensures
    (subst (λ v. RegistryIs v (λ s. IsTrue (is_some c.slots.result.opened) ↔ IsOpened c.args.name s)) c.self.view_is
    (opened_told _ _ _ c.args.name c.slots.result c.self.invariant c.slots.ensures))
