use Rattle.registry_core.proofs.RegistryRuns.{empty_keeps}
use Rattle.registry_core.proofs.registry.Registry.empty.Goals as goal

pub invariant_of-result : goal.invariant_of-result
invariant_of-result c = rw (c.of.ensures, c.new.ensures.items) (empty_keeps _ _ _ c.in_ok-parts.ensures.names c.in_ok-parts.ensures.taken c.in_ok-parts.ensures.files)
