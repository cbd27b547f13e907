use Rattle.std.proofs.Common.{IsTrue, ◌↔◌, subst}
use Rattle.registry_core.proofs.RegistryRuns.{use_told}
use Rattle.registry_core.specs.Registries.{IsInUse}
use Rattle.registry_core.specs.RegistryValues.{RegistryIs}
use Rattle.registry_core.proofs.registry.Registry.in_use.Goals as goal

pub returns : goal.returns
returns c =
    subst (λ v. RegistryIs v (λ s. IsTrue c.is_used.result ↔ IsInUse c.args.file.0 s)) c.self.view_is
    (use_told _ _ _ c.args.file.0 c.is_used.result c.self.invariant c.is_used.ensures)
