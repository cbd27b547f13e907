use Rattle.std.proofs.Common.{◌≡◌, ◌<◌, [], take, length, subst, arith}
use Rattle.ho_io.specs.Told.{Tells}
use Rattle.ho_io.proofs.Bytes.{in_front_all}
use Rattle.image_file.proofs.Loading.{more_left}
use Rattle.image_file.proofs.loader.see_end.Goals as goal

pub returns-in-Ok-eq0-clause-end : goal.returns-in-Ok-eq0-clause-end
returns-in-Ok-eq0-clause-end g c =
    let none : c.in-Ok-eq0.field-0 ≡ 0 = c.in-Ok-eq0.field-0-test in
    let room : c.in-Ok-eq0.field-0 < length c.read_full.new.buf = omega (arith, none, c.read_full.auto.buf) in
    subst (λ n. Tells (g.S.Source.left c.args.src.now) (take n c.read_full.new.buf)) none (in_front_all _ _ _ c.in-Ok-eq0.ensures.taken (c.in-Ok-eq0.ensures.end room))

pub returns-in-Ok-clause-over : goal.returns-in-Ok-clause-over
returns-in-Ok-clause-over g c =
    let some : 0 < c.in-Ok.field-0 = omega (arith, c.in-Ok.field-0-test) in
    more_left _ _ c.read_full.new.buf c.in-Ok.field-0 some c.in-Ok.ensures.bound c.in-Ok.ensures.taken
