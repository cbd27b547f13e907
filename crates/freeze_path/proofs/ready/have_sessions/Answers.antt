use Rattle.std.proofs.Common.{sym, subst, refl}
use Rattle.std.specs.Option.{IsSome}
use Rattle.ho_base.specs.Objects.{session_no}
use Rattle.machine_core.specs.Kernels.{object_at}
use Rattle.kernel_carried.proofs.Survey.{one_below}
use Rattle.freeze_path.proofs.ready.have_sessions.Goals as goal

pub loop-slot-preserved : goal.loop-slot-preserved
loop-slot-preserved c =
    one_below (λ n. IsSome (object_at c.args.kernel.now.objects (session_no n))) c.loop-slot.slot c.loop-slot.invariant (subst IsSome (sym c.session-session.ensures.at) refl)

pub returns-clause-registry : goal.returns-clause-registry
returns-clause-registry c = subst IsSome (sym c.registry-registry.ensures) refl
