use Rattle.std.proofs.Common.{◌≡◌, ◌∷◌, ◌++◌, ap, sym, ◌∙◌, arith}
use Rattle.std.proofs.lemmas.Grind.{common_steps}
use Rattle.std.proofs.lemmas.List.{append-nil}
use Rattle.pool_core.proofs.PoolAdopts.{out_first, out_rest, frames_step, folios_step, frames_end, folios_end}
use Rattle.pool_core.proofs.frames.adopting.take_all.Goals as goal

pub take_one-folio-requires : goal.take_one-folio-requires
take_one-folio-requires c =
    let so : c.loop-run.left.now ≡ c.in-Some.run'.now ∷ c.in-Some.rest.now = grind (arith, common_steps) in
    out_first c.in-Some.run'.now c.in-Some.rest.now c.loop-run.left.now so c.loop-run.frames c.loop-run.invariant.2

pub loop-run-preserved : goal.loop-run-preserved
loop-run-preserved c =
    let so : c.loop-run.left.now ≡ c.in-Some.run'.now ∷ c.in-Some.rest.now = grind (arith, common_steps) in (
      frames_step c.in-Some.run'.now c.in-Some.rest.now c.loop-run.left.now so c.loop-run.frames c.take_one-folio.new.frames c.take_one-folio.ensures.value ∙ c.loop-run.invariant.0,
      folios_step c.in-Some.run'.now c.in-Some.rest.now c.loop-run.left.now so c.loop-run.frames c.take_one-folio.new.frames c.loop-run.out.items c.put.new.list.items c.take_one-folio.result c.take_one-folio.ensures.value c.take_one-folio.ensures.folio c.put.ensures.items ∙ c.loop-run.invariant.1,
      out_rest c.in-Some.run'.now c.in-Some.rest.now c.loop-run.left.now so c.loop-run.frames c.take_one-folio.new.frames c.take_one-folio.ensures.value c.loop-run.invariant.2,
      grind (arith, common_steps),
    )

pub returns-clause-frames : goal.returns-clause-frames
returns-clause-frames c = frames_end c.loop-run.left.now c.loop-run.frames c.in_default.ensures.cases ∙ c.loop-run.invariant.0

pub returns-clause-folios : goal.returns-clause-folios
returns-clause-folios c =
    sym (ap (λ fs. c.loop-run.out.items ++ fs) (folios_end c.loop-run.left.now c.loop-run.frames c.in_default.ensures.cases) ∙ append-nil c.loop-run.out.items)
    ∙ c.loop-run.invariant.1
