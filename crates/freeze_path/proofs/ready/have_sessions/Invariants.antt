use Rattle.std.proofs.Common.{ℕ, ◌<◌}
use Rattle.std.specs.Option.{IsSome}
use Rattle.ho_base.specs.Objects.{session_no}
use Rattle.machine_core.specs.Kernels.{object_at}
use Rattle.freeze_path.proofs.ready.have_sessions.Given as goal

-- the slots so far are among the objects
abbrev pub invariant-loop-slot : goal.invariant-loop-slot
invariant-loop-slot l = (slot : ℕ) → slot < l.slot → IsSome (object_at l.kernel.objects (session_no slot))
