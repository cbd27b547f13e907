use Rattle.std.proofs.Common.{◌≡◌, ◌<◌, ◌-◌, length, take, subst, sym, arith}
use borrow.Rule.Slice.PartMut.{put_mid}
use Rattle.ho_io.specs.Told.{in_front}
use Rattle.ho_io.proofs.Bytes.{in_front_none, nothing_taken, ended}
use Rattle.image_file.proofs.Loading.{put_size, put_front, put_more, rest_size}
use Rattle.image_file.proofs.loader.read_full.Goals as goal

pub loop-done-init : goal.loop-done-init
loop-done-init g c = record { within = omega arith; taken = in_front_none _; counts = omega arith }

pub returns-in-Ok-eq0-clause-taken : goal.returns-in-Ok-eq0-clause-taken
returns-in-Ok-eq0-clause-taken g c =
    let kept = nothing_taken _ _ _ _ c.in-Ok-eq0.field-0-test c.in-Ok-eq0.ensures.taken in
    subst (λ o. g.S.Source.left c.args.src.now ≡ in_front (take c.loop-done.done (put_mid c.loop-done.done (length c.loop-done.buf - c.loop-done.done) c.loop-done.buf c.read.new.buf)) o) (sym kept)
    (put_front c.loop-done.done c.loop-done.buf c.read.new.buf c.loop-done.invariant.within c.read.auto.buf _ _ c.loop-done.invariant.taken)

pub returns-in-Ok-eq0-clause-end : goal.returns-in-Ok-eq0-clause-end
returns-in-Ok-eq0-clause-end g c = λ _.
    let none : c.in-Ok-eq0.field-0 ≡ 0 = c.in-Ok-eq0.field-0-test in
    let size = rest_size c.loop-done.done c.loop-done.buf c.read.new.buf c.loop-done.invariant.within c.read.auto.buf in
    let room : 0 < length c.read.new.buf = omega (arith, size, c.loop-done-test.true) in
    ended _ _ (nothing_taken _ _ _ _ none c.in-Ok-eq0.ensures.taken) (c.in-Ok-eq0.ensures.end none room)

pub loop-done-preserved : goal.loop-done-preserved
loop-done-preserved g c =
    let size = rest_size c.loop-done.done c.loop-done.buf c.read.new.buf c.loop-done.invariant.within c.read.auto.buf in
    let whole = put_size c.loop-done.done c.loop-done.buf c.read.new.buf c.loop-done.invariant.within c.read.auto.buf in
    record {
      within = omega (arith, size, whole, c.in-Ok.ensures.bound);
      taken = put_more c.loop-done.done c.loop-done.buf c.read.new.buf c.loop-done.invariant.within c.read.auto.buf c.in-Ok.count _ _ _ c.in-Ok.ensures.bound c.loop-done.invariant.taken c.in-Ok.ensures.taken;
      counts = omega (arith, c.loop-done.invariant.counts, c.in-Ok.ensures.counts);
    }
