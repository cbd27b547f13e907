use Rattle.std.proofs.Common.{◌∙◌, arith, refl, ◌≡◌}
use Rattle.ho_io.proofs.Bytes.{behind_none, behind_more, piece_within, nothing_written}
use Rattle.ho_io.proofs.host.put_all.Goals as goal

pub loop-done-init : goal.loop-done-init
loop-done-init g c = record { within = omega arith; out = behind_none _; counts = omega arith; holds = refl; made = refl; asked = refl; sinks = refl; reads = refl }

pub loop-done-preserved : goal.loop-done-preserved
loop-done-preserved g c = record {
  within = piece_within _ _ _ c.in-Ok.ensures.bound c.loop-done.invariant.within;
  out = behind_more _ _ _ _ _ _ c.loop-done.invariant.out c.in-Ok.ensures.appended;
  counts = omega (arith, c.in-Ok.ensures.counts);
  holds = c.in-Ok.ensures.holds_kept ∙ c.loop-done.invariant.holds;
  made = c.in-Ok.ensures.made_kept ∙ c.loop-done.invariant.made;
  asked = c.in-Ok.ensures.asked_kept ∙ c.loop-done.invariant.asked;
  sinks = c.in-Ok.ensures.sinks_kept ∙ c.loop-done.invariant.sinks;
  reads = c.in-Ok.ensures.reads_kept ∙ c.loop-done.invariant.reads;
}

pub returns-in-Ok-eq0-clause-part : goal.returns-in-Ok-eq0-clause-part
returns-in-Ok-eq0-clause-part g c =
    let none : c.in-Ok-eq0.field-0 ≡ 0 = omega arith in
    (c.loop-done.done, (c.loop-done-test.true, nothing_written _ _ _ _ none c.in-Ok-eq0.ensures.appended ∙ c.loop-done.invariant.out))
