use Rattle.std.proofs.Common.{◌≡◌, ◌∷◌, ◌+◌, sym, ◌∙◌, arith}
use Rattle.std.proofs.lemmas.Grind.{common_steps}
use Rattle.pool_core.proofs.PoolLends.{lent_step, lent_end, out_step, first_lends, rest_lends}
use Rattle.pool_core.proofs.frames.table.Table.lend_all.Goals as goal

pub lend-folio-requires-clause-free : goal.lend-folio-requires-clause-free
lend-folio-requires-clause-free c =
    let so : c.loop-run.left.now ≡ c.in-Some.run'.now ∷ c.in-Some.rest.now = grind (arith, common_steps) in
    first_lends c.loop-run.self c.args.order.0 c.in-Some.run'.now c.in-Some.rest.now c.loop-run.left.now so c.loop-run.invariant.2

pub loop-run-preserved : goal.loop-run-preserved
loop-run-preserved c =
    let so : c.loop-run.left.now ≡ c.in-Some.run'.now ∷ c.in-Some.rest.now = grind (arith, common_steps) in (
      lent_step (c.args.order.0 + 1) _ _ _ _ _ c.lend-folio.ensures.value so ∙ c.loop-run.invariant.0,
      out_step (c.args.order.0 + 1) _ _ _ _ _ _ _ _ _ c.lend-folio.ensures.value c.lend-folio.ensures.folio c.put.ensures.items so ∙ c.loop-run.invariant.1,
      rest_lends _ _ _ _ _ _ c.lend-folio.ensures.value so c.loop-run.invariant.2,
      grind (arith, common_steps),
    )

pub returns-clause-value : goal.returns-clause-value
returns-clause-value c =
    sym (lent_end (c.args.order.0 + 1) c.loop-run.self c.loop-run.left.now c.in_default.ensures.cases) ∙ c.loop-run.invariant.0
