use Rattle.std.proofs.Common.{◌≡◌, ◌∷◌, ◌∙◌, arith}
use Rattle.std.proofs.lemmas.Grind.{common_steps}
use Rattle.pool_core.proofs.PoolAdopts.{reserve_first, reserve_rest, set_step, set_end}
use Rattle.pool_core.proofs.frames.adopting.reserve_all.Goals as goal

pub reserve-requires-clause-order : goal.reserve-requires-clause-order
reserve-requires-clause-order c =
    let so : c.loop-run.left.now ≡ c.in-Some.run'.now ∷ c.in-Some.rest.now = grind (arith, common_steps) in
    (reserve_first c.in-Some.run'.now c.in-Some.rest.now c.loop-run.left.now so c.loop-run.buddy c.loop-run.invariant.1).0

pub reserve-requires-clause-run : goal.reserve-requires-clause-run
reserve-requires-clause-run c =
    let so : c.loop-run.left.now ≡ c.in-Some.run'.now ∷ c.in-Some.rest.now = grind (arith, common_steps) in
    (reserve_first c.in-Some.run'.now c.in-Some.rest.now c.loop-run.left.now so c.loop-run.buddy c.loop-run.invariant.1).1

pub loop-run-preserved : goal.loop-run-preserved
loop-run-preserved c =
    let so : c.loop-run.left.now ≡ c.in-Some.run'.now ∷ c.in-Some.rest.now = grind (arith, common_steps) in (
      set_step c.in-Some.run'.now c.in-Some.rest.now c.loop-run.left.now so c.loop-run.buddy c.reserve.new.self c.reserve.ensures ∙ c.loop-run.invariant.0,
      reserve_rest c.in-Some.run'.now c.in-Some.rest.now c.loop-run.left.now so c.loop-run.buddy c.reserve.new.self c.reserve.ensures c.loop-run.invariant.1,
    )

pub returns : goal.returns
returns c = set_end c.loop-run.left.now c.loop-run.buddy c.in_default.ensures.cases ∙ c.loop-run.invariant.0
