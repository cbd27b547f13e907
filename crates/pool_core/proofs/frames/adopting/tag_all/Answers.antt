use Rattle.std.proofs.Common.{◌≡◌, ◌∷◌, ◌+◌, ◌∙◌, arith, length, refl}
use Rattle.std.proofs.lemmas.Grind.{common_steps}
use Rattle.std.proofs.lemmas.List.{length-set}
use Rattle.pool_core.proofs.PoolAdopts.{begins_first, begins_rest, tags_step, tags_end}
use Rattle.pool_core.proofs.frames.adopting.tag_all.Goals as goal

pub overflow_add-run : goal.overflow_add-run
overflow_add-run c =
    let so : c.loop-run.left.now ≡ c.in-Some.run'.now ∷ c.in-Some.rest.now = grind (arith, common_steps) in
    omega (arith, (begins_first c.in-Some.run'.now c.in-Some.rest.now c.loop-run.left.now so (length c.loop-run.tags.items) c.loop-run.invariant.1).1)

pub index_mut-requires : goal.index_mut-requires
index_mut-requires c =
    let so : c.loop-run.left.now ≡ c.in-Some.run'.now ∷ c.in-Some.rest.now = grind (arith, common_steps) in
    omega (arith, (begins_first c.in-Some.run'.now c.in-Some.rest.now c.loop-run.left.now so (length c.loop-run.tags.items) c.loop-run.invariant.1).0)

pub loop-run-preserved : goal.loop-run-preserved
loop-run-preserved c =
    let so : c.loop-run.left.now ≡ c.in-Some.run'.now ∷ c.in-Some.rest.now = grind (arith, common_steps) in (
      tags_step c.in-Some.run'.now c.in-Some.rest.now c.loop-run.left.now so c.loop-run.tags.items _ refl ∙ c.loop-run.invariant.0,
      begins_rest c.in-Some.run'.now c.in-Some.rest.now c.loop-run.left.now so (length c.loop-run.tags.items) _ (length-set c.loop-run.tags.items c.in-Some.run'.now.0.0 (c.in-Some.run'.now.1.0 + 1)) c.loop-run.invariant.1,
    )

pub returns : goal.returns
returns c = tags_end c.loop-run.left.now c.loop-run.tags.items c.in_default.ensures.cases ∙ c.loop-run.invariant.0
