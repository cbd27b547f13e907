use Rattle.std.proofs.Common.{sym, subst}
use Rattle.std.specs.List.{All}
use Rattle.machine_core.specs.declared.object.Object.TheVariants.{Pool}
use Rattle.machine_core.specs.Kernels.{IsLeft}
use Rattle.machine_core.proofs.GivenUp.{is_pool, are_left}
use Rattle.machine_core.proofs.kernel.Kernel.give_up.Goals as goal

pub give_all-requires-clause-objects : goal.give_all-requires-clause-objects
give_all-requires-clause-objects c =
    let here = is_pool _ _ _ c.self.inside.objects.items c.self.invariant (Pool c.in-Pool.pool) c.in-Pool.ensures.object in
    subst (λ h. All (IsLeft h) c.take_out.new.objects.items) (sym here.machine.1)
    (subst (All (IsLeft c.self.inside.home)) (sym c.in-Pool.ensures.place) (are_left _ _ _ c.self.inside.objects.items c.self.invariant))
