use Rattle.std.proofs.Common.{sym, ap, ◌∙◌, arith, vec_len}
use Rattle.pool_core.specs.PoolValues.{PoolValue}
use Rattle.machine_core.proofs.Built.{absent_is}
use Rattle.machine_core.proofs.building.add_absent.Goals as goal

pub add-requires-clause-object : goal.add-requires-clause-object
add-requires-clause-object c =
    absent_is c.args.plan.now c.absent-file.result (vec_len c.loop-at.objects) c.args.from c.args.to c.requires.absent
    (omega (arith, c.loop-at.invariant.0, c.loop-at.auto.at)) (omega (arith, c.loop-at.invariant.0, c.loop-at-test.true))
    (c.absent-file.ensures.number ∙ sym c.loop-at.invariant.0) (c.absent-file.ensures.home ∙ c.home.ensures ∙ ap (λ (p : PoolValue). p.home) c.requires.pool) c.absent-file.ensures.start c.absent-file.ensures.history
