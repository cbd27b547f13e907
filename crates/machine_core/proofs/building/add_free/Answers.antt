use Rattle.std.proofs.Common.{sym, ◌∙◌, arith, vec_len}
use Rattle.machine_core.proofs.Built.{free_is}
use Rattle.machine_core.proofs.building.add_free.Goals as goal

pub add-requires-clause-object : goal.add-requires-clause-object
add-requires-clause-object c =
    free_is c.args.plan.now c.free-slot.result (vec_len c.loop-at.objects) c.args.from c.args.to c.requires.free
    (omega (arith, c.loop-at.invariant.0, c.loop-at.auto.at)) (omega (arith, c.loop-at.invariant.0, c.loop-at-test.true))
    (c.free-slot.ensures.number ∙ sym c.loop-at.invariant.0) c.free-slot.ensures.start c.free-slot.ensures.history
