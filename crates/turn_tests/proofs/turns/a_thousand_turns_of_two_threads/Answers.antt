use Rattle.std.proofs.Common.{sym, ap, ◌∙◌, subst, arith}
use Rattle.turns_table.specs.Views.{IsMine, role, holds}
use Rattle.turns_table.specs.Passes.{view}
use Rattle.turns_table.proofs.Sharing.{near, all_back}
use Rattle.turn_tests.proofs.turns.a_thousand_turns_of_two_threads.Goals as goal

pub split-requires-clause-spare : goal.split-requires-clause-spare
split-requires-clause-spare g c = c.in-Ok.ensures.roles 3 (near 3 (omega arith))

pub split-requires-2-clause-spare : goal.split-requires-2-clause-spare
split-requires-2-clause-spare g c = c.in-Ok-split.ensures.left.1 7 (λ e. omega arith) ∙ c.in-Ok.ensures.roles 7 (near 7 (omega arith))

pub split-requires-2-clause-other : goal.split-requires-2-clause-other
split-requires-2-clause-other g c = (0, (λ e. omega arith), subst IsMine (sym (c.in-Ok-split.ensures.left.1 0 (λ e. omega arith) ∙ c.in-Ok.ensures.roles 0 (near 0 (omega arith)))) tt)

pub close-objects-requires-clause-whole : goal.close-objects-requires-clause-whole
close-objects-requires-clause-whole g c = λ a h. let f = c.join-one.ensures.first in let s = c.join-one.ensures.second in
    subst IsMine (sym (c.join-2.ensures.roles a ∙ ap (λ r. Rattle.turns_table.specs.Views.merged r (role (view c.join-one.result.1) a)) (c.join.ensures.roles a)))
    (all_back (λ b. role (view c.split-2.new.from) b) (λ b. role (view c.join-one.result.0) b) (λ b. role (view c.join-one.result.1) b) 3 7
    (λ b hb n3 n7. c.in-Ok-split-2.ensures.left.1 b n7 ∙ (c.in-Ok-split.ensures.left.1 b n3 ∙ c.in-Ok.ensures.roles b hb)) (subst IsMine (sym f.1.2.1) tt) (subst IsMine (sym s.1.2.1) tt) a h)
