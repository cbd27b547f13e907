use Rattle.std.proofs.Common.{sym, ap, ◌∙◌, refl, subst, arith}
use Rattle.turns_table.specs.Views.{IsMine, role, holds}
use Rattle.turns_table.specs.Passes.{view}
use Rattle.turns_table.proofs.Sharing.{near, all_back}
use Rattle.turn_tests.proofs.turns.turns_with_two_objects_do_not_exclude_each_other.Goals as goal

pub split-requires-clause-spare : goal.split-requires-clause-spare
split-requires-clause-spare g c = c.in-Ok.ensures.roles 3 (near 3 (omega arith))

pub split-requires-2-clause-spare : goal.split-requires-2-clause-spare
split-requires-2-clause-spare g c = c.in-Ok-split.ensures.left.1 7 (λ e. omega arith) ∙ c.in-Ok.ensures.roles 7 (near 7 (omega arith))

pub split-requires-2-clause-other : goal.split-requires-2-clause-other
split-requires-2-clause-other g c = (0, (λ e. omega arith), subst IsMine (sym (c.in-Ok-split.ensures.left.1 0 (λ e. omega arith) ∙ c.in-Ok.ensures.roles 0 (near 0 (omega arith)))) tt)

pub end-requires-clause-turn : goal.end-requires-clause-turn
end-requires-clause-turn g c = (c.in-Some.tally, c.in-Some.ensures.held, refl, refl)

pub end-requires-2-clause-turn : goal.end-requires-2-clause-turn
end-requires-2-clause-turn g c = (c.in-Some-try_begin-2.tally, c.in-Some-try_begin-3.ensures.others 1 (λ e. omega arith) ∙ c.in-Some-try_begin-2.ensures.held, refl, refl)

pub end-requires-3-clause-turn : goal.end-requires-3-clause-turn
end-requires-3-clause-turn g c = (c.in-Some-try_begin-3.tally, c.end-2.ensures.others 0 (λ e. omega arith) ∙ c.in-Some-try_begin-3.ensures.held, refl, refl)

pub close-objects-requires-clause-whole : goal.close-objects-requires-clause-whole
close-objects-requires-clause-whole g c = λ a h.
    let one : IsMine (role (view c.end.new.pass) 3) = subst IsMine (sym (c.end.ensures.roles 3 ∙ (c.try_begin.ensures.roles 3 ∙ c.in-Ok-split.ensures.number.0))) tt in
    let other : IsMine (role (view c.end-3.new.pass) 7) = subst IsMine (sym (c.end-3.ensures.roles 7 ∙ (c.end-2.ensures.roles 7 ∙ (c.try_begin-4.ensures.roles 7 ∙ (c.try_begin-3.ensures.roles 7 ∙ (c.try_begin-2.ensures.roles 7 ∙ c.in-Ok-split-2.ensures.number.0)))))) tt in
    subst IsMine (sym (c.join-2.ensures.roles a ∙ ap (λ r. Rattle.turns_table.specs.Views.merged r (role (view c.end-3.new.pass) a)) (c.join.ensures.roles a)))
    (all_back (λ b. role (view c.split-2.new.from) b) (λ b. role (view c.end.new.pass) b) (λ b. role (view c.end-3.new.pass) b) 3 7
    (λ b hb n3 n7. c.in-Ok-split-2.ensures.left.1 b n7 ∙ (c.in-Ok-split.ensures.left.1 b n3 ∙ c.in-Ok.ensures.roles b hb)) one other a h)
