use Rattle.std.proofs.Common.{refl, ◌∙◌, ap, replicate, false, length}
use Rattle.session_core.proofs.IncomingSlots.{fresh_shown, fresh_keeps, as_many}
use Rattle.session_core.proofs.session.SessionObject.incoming.Goals as goal

pub invariant_of-result : goal.invariant_of-result
invariant_of-result c = rw (c.of-start.ensures, c.new.ensures.items) (fresh_keeps _ _ c.requires.rising c.requires.within refl
    (as_many _ _ (c.in-Ok.ensures.items_if_clones_equal (λ y h. h) ∙ ap (λ xs. replicate (length xs) false) c.as_slice.ensures.value)))

pub returns-clause-start : goal.returns-clause-start
returns-clause-start c = c.of-start.ensures ∙ fresh_shown _ _ _ refl (c.in-Ok.ensures.items_if_clones_equal (λ y h. h) ∙ ap (λ xs. replicate (length xs) false) c.as_slice.ensures.value)
