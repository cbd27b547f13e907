use Rattle.std.proofs.Common.{◌∙◌, arith, refl, ◌≡◌}
use Rattle.ho_io.proofs.Bytes.{behind_none, behind_more, piece_within, nothing_written}
use Rattle.ho_io.proofs.sink.write_all.Goals as goal

pub loop-done-init : goal.loop-done-init
loop-done-init g c = record { within = omega arith; written = behind_none _; named = refl; counts = omega arith }

pub loop-done-preserved : goal.loop-done-preserved
loop-done-preserved g c = record {
  within = piece_within _ _ _ c.in-Ok.ensures.bound c.loop-done.invariant.within;
  written = behind_more _ _ _ _ _ _ c.loop-done.invariant.written c.in-Ok.ensures.appended;
  named = c.in-Ok.ensures.named ∙ c.loop-done.invariant.named;
  counts = omega (arith, c.in-Ok.ensures.counts);
}

pub returns-in-Ok-eq0-clause-part : goal.returns-in-Ok-eq0-clause-part
returns-in-Ok-eq0-clause-part g c =
    let none : c.in-Ok-eq0.field-0 ≡ 0 = omega arith in
    (c.loop-done.done, (c.loop-done-test.true, nothing_written _ _ _ _ none c.in-Ok-eq0.ensures.appended ∙ c.loop-done.invariant.written))
