use Rattle.std.proofs.Common.{◌≡◌, None, Some, subst}
use Rattle.ho_events.specs.Registry.{least_free_file}
use Rattle.registry_core.proofs.RegistryRuns.{least_file_told}
use Rattle.registry_core.specs.RegistryValues.{RegistryIs}
use Rattle.registry_core.proofs.registry.Registry.least_file.Goals as goal

pub returns-in_err-file-clause-value : goal.returns-in_err-file-clause-value
returns-in_err-file-clause-value c =
    rw c.from_residual.ensures
    (subst (λ v. RegistryIs v (λ s. least_free_file s.files ≡ None)) c.self.view_is
    (least_file_told _ _ _ None c.self.invariant c.in_err-file.ensures.value))

pub returns-clause-value : goal.returns-clause-value
returns-clause-value c =
    subst (λ v. RegistryIs v (λ s. least_free_file s.files ≡ Some c.in_ok-file.file)) c.self.view_is
    (least_file_told _ _ _ (Some c.in_ok-file.file) c.self.invariant c.in_ok-file.ensures.value)
