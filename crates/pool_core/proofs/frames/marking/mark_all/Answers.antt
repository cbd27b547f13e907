use Rattle.std.proofs.Common.{◌≡◌, ◌∷◌, ap, sym, subst, ◌∙◌, arith}
use Rattle.std.proofs.lemmas.Grind.{common_steps}
use Rattle.ho_events.specs.Lists.{firsts}
use Rattle.pool_core.specs.PoolFramesValues.{mark_runs, EachIsRun}
use Rattle.pool_core.proofs.PoolMarking.{run_first, run_rest}
use Rattle.pool_core.proofs.frames.marking.mark_all.Goals as goal

pub mark-requires : goal.mark-requires
mark-requires c =
    let so : c.loop-run.left.now ≡ c.in-Some.run'.now ∷ c.in-Some.rest.now = grind (arith, common_steps) in
    record { run = run_first c.loop-run.marks.frames c.args.order.0 c.in-Some.run'.now c.in-Some.rest.now c.loop-run.left.now so c.loop-run.invariant.2 }

pub loop-run-preserved : goal.loop-run-preserved
loop-run-preserved c =
    let so : c.loop-run.left.now ≡ c.in-Some.run'.now ∷ c.in-Some.rest.now = grind (arith, common_steps) in (
      ap (λ m. mark_runs c.args.order.0 (firsts c.in-Some.rest.now) m.runs) c.mark.ensures
          ∙ ap (λ l. mark_runs c.args.order.0 (firsts l) c.loop-run.marks.runs) (sym so) ∙ c.loop-run.invariant.0,
      ap (λ m. m.frames) c.mark.ensures ∙ c.loop-run.invariant.1,
      subst (λ m. EachIsRun m.frames c.args.order.0 c.in-Some.rest.now) (sym c.mark.ensures) (run_rest c.loop-run.marks.frames c.args.order.0 c.in-Some.run'.now c.in-Some.rest.now c.loop-run.left.now so c.loop-run.invariant.2),
    )
