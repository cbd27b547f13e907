use Rattle.std.proofs.Common.{◌≡◌, ◌<◌, length, arith, rules}
use Rattle.ho_io.proofs.Bytes.{in_front_more, in_front_told, nothing_taken, ended}
use Rattle.ho_io.proofs.source.read_block.Goals as goal

pub returns-in-Ok-eq0-clause-end : goal.returns-in-Ok-eq0-clause-end
returns-in-Ok-eq0-clause-end g c = λ _.
    let none : c.in-Ok-eq0.field-0 ≡ 0 = omega arith in
    let room : 0 < length c.read.new.buf = search rules in
    ended _ _ (nothing_taken _ _ _ _ none c.in-Ok-eq0.ensures.taken) (c.in-Ok-eq0.ensures.end none room)

pub returns-in-Ok-eq0-clause-still : goal.returns-in-Ok-eq0-clause-still
returns-in-Ok-eq0-clause-still g c = λ _.
    let none : c.in-Ok-eq0.field-0 ≡ 0 = omega arith in
    nothing_taken _ _ _ _ none c.in-Ok-eq0.ensures.taken

pub returns-in-Ok-eq0-clause-told : goal.returns-in-Ok-eq0-clause-told
returns-in-Ok-eq0-clause-told g c =
    in_front_told _ _ _ c.in-Ok-eq0.ensures.taken

pub returns-in-Ok-extend_from_slice-clause-taken : goal.returns-in-Ok-extend_from_slice-clause-taken
returns-in-Ok-extend_from_slice-clause-taken g c = λ _ first e.
    rw c.in-Ok-extend_from_slice.ensures.items (in_front_more _ _ _ _ _ e c.in-Ok.ensures.taken)

pub returns-in-Ok-extend_from_slice-clause-told : goal.returns-in-Ok-extend_from_slice-clause-told
returns-in-Ok-extend_from_slice-clause-told g c =
    in_front_told _ _ _ c.in-Ok.ensures.taken

pub returns-in-Err-extend_from_slice-clause-told : goal.returns-in-Err-extend_from_slice-clause-told
returns-in-Err-extend_from_slice-clause-told g c =
    in_front_told _ _ _ c.in-Ok.ensures.taken
