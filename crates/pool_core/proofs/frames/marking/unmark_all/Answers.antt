use Rattle.std.proofs.Common.{◌≡◌, ◌∷◌, ap, sym, subst, ◌∙◌, arith}
use Rattle.std.proofs.lemmas.Grind.{common_steps}
use Rattle.ho_events.specs.Lists.{firsts}
use Rattle.pool_core.specs.PoolFramesValues.{unmark_runs, EachMarked}
use Rattle.pool_core.proofs.PoolMarking.{marked_first, marked_rest}
use Rattle.pool_core.proofs.frames.marking.unmark_all.Goals as goal

pub unmark-requires : goal.unmark-requires
unmark-requires c =
    let so : c.loop-run.left.now ≡ c.in-Some.run'.now ∷ c.in-Some.rest.now = grind (arith, common_steps) in
    record { marked = marked_first c.loop-run.marks.runs c.args.order.0 c.in-Some.run'.now c.in-Some.rest.now c.loop-run.left.now so c.loop-run.invariant.2 }

pub loop-run-preserved : goal.loop-run-preserved
loop-run-preserved c =
    let so : c.loop-run.left.now ≡ c.in-Some.run'.now ∷ c.in-Some.rest.now = grind (arith, common_steps) in (
      ap (λ m. unmark_runs c.args.order.0 (firsts c.in-Some.rest.now) m.runs) c.unmark.ensures
          ∙ ap (λ l. unmark_runs c.args.order.0 (firsts l) c.loop-run.marks.runs) (sym so) ∙ c.loop-run.invariant.0,
      ap (λ m. m.frames) c.unmark.ensures ∙ c.loop-run.invariant.1,
      subst (λ m. EachMarked c.args.order.0 c.in-Some.rest.now m.runs) (sym c.unmark.ensures) (marked_rest c.loop-run.marks.runs c.args.order.0 c.in-Some.run'.now c.in-Some.rest.now c.loop-run.left.now so c.loop-run.invariant.2),
    )
