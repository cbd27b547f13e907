use Rattle.std.proofs.Common.{◌∙◌, refl, arith}
use Rattle.image_file.proofs.Wrote.{nothing_yet, all_more, part_more, of_err}
use Rattle.image_file.proofs.writer.write_frames.Goals as goal

pub loop-done-init : goal.loop-done-init
loop-done-init g c = record { within = omega arith; written = nothing_yet _; named = refl; counts = omega arith }

pub returns-in_err-write_run-clause-part : goal.returns-in_err-write_run-clause-part
returns-in_err-write_run-clause-part g c =
    of_err c.from_residual.result (part_more _ _ _ c.args.frames.now.pages c.loop-done.done _ c.loop-done.invariant.written c.in_err-write_run.ensures.part)

pub loop-done-preserved : goal.loop-done-preserved
loop-done-preserved g c = record {
  within = omega (arith, c.loop-done-test.true, c.count-count.ensures.value, c.min-many.ensures);
  written = all_more _ _ _ c.args.frames.now.pages c.loop-done.done _ c.loop-done.invariant.written c.in_ok-write_run.ensures.all;
  named = c.in_ok-write_run.ensures.named ∙ c.loop-done.invariant.named;
  counts = omega (arith, c.loop-done.invariant.counts, c.in_ok-write_run.ensures.counts);
}
