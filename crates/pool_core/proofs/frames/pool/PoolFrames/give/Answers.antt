use Rattle.std.proofs.Common.{◌∙◌, ap, arith}
use Rattle.std.proofs.lemmas.Grind.{common_steps}
use Rattle.pool_core.proofs.PoolPasses.{give_step, others_can}
use Rattle.pool_core.proofs.frames.pool.PoolFrames.give.Goals as goal

pub loop-folio-preserved : goal.loop-folio-preserved
loop-folio-preserved c = (
  give_step _ _ _ _ _ c.give_one.ensures c.in-Some.ensures.items ∙ c.loop-folio.invariant.0,
  others_can c.args.order.0 _ _ _ _ c.in-Some.ensures.items c.loop-folio.invariant.1 _ c.give_one.ensures,
  ap (λ v. v.home) c.give_one.ensures ∙ c.loop-folio.invariant.2,
  grind (arith, common_steps, c.loop-folio.invariant.3),
  grind (arith, common_steps, c.loop-folio.invariant.4),
)
