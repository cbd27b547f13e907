use Rattle.std.proofs.Common.{◌∙◌, [], ap}
use Rattle.ho_events.specs.Pool.{cold_pool}
use Rattle.ho_events.specs.Registry.{cold_registry}
use Rattle.machine_core.specs.Kernels.{begins_with}
use Rattle.machine_core.proofs.Built.{starts_of, states_of, cold_begins}
use Rattle.machine_core.proofs.kernel.Kernel.cold.Goals as goal

pub returns-in-Ok-cold_pool-clause-begun : goal.returns-in-Ok-cold_pool-clause-begun
returns-in-Ok-cold_pool-clause-begun c =
    c.begin.ensures.begun
    ∙ ap (λ s. begins_with s c.in-Ok.registry.start (starts_of c.new.result.items) (states_of c.new-in-Ok-cold_pool.result.items)) c.in-Ok-cold_pool.ensures.start
    ∙ ap (λ s. begins_with (cold_pool c.args.shape) s (starts_of c.new.result.items) (states_of c.new-in-Ok-cold_pool.result.items)) c.in-Ok.ensures.start
    ∙ ap (λ l. begins_with (cold_pool c.args.shape) cold_registry (starts_of l) (states_of c.new-in-Ok-cold_pool.result.items)) c.new.ensures.items
    ∙ ap (λ l. begins_with (cold_pool c.args.shape) cold_registry [] (states_of l)) c.new-in-Ok-cold_pool.ensures.items
    ∙ cold_begins c.args.shape
