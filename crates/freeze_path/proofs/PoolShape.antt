-- The pool of a kernel.
use Rattle.std.proofs.Common.{◌≡◌, refl, subst, ◌∙◌, IsTrue}
use Rattle.std.specs.Prelude.{Option, None, Some, MatchOption}
use Rattle.ho_base.specs.Objects.{pool_no}
use Rattle.ho_base.specs.ShapeRule.{Layout, is_layout}
use Rattle.ho_events.specs.History.{pool_from}
use Rattle.ho_events.specs.Pool.{PoolState}
use Rattle.pool_core.specs.PoolValues.{PoolValue, PoolIs}
use Rattle.machine_core.specs.declared.object.Object.TheVariants.{Pool}
use Rattle.machine_core.specs.Kernels.{KernelValue, object_at}
use Rattle.freeze_path.specs.Ready.{HasPool}

-- the pool's state, by what is told of it
pub pool_is : (kernel : KernelValue) (v : PoolValue) (shape : Layout) → object_at kernel.objects pool_no ≡ Some (Pool v) → PoolIs v (λ s. s.shape ≡ shape) → shape ≡ kernel.shape → IsTrue (is_layout shape.frames shape.scratch) → HasPool kernel
pool_is kernel v shape at h same legal = go (pool_from v.start v.history) refl h
  where
    go : (o : Option PoolState) → pool_from v.start v.history ≡ o → MatchOption o ⊥ (λ s. s.shape ≡ shape) → HasPool kernel
    go None e k = absurd k
    go (Some s) e k = record { value = v; at = at; state = s; run = e; shape = k ∙ same; layout = subst (λ (h : Layout). IsTrue (is_layout h.frames h.scratch)) same legal }
