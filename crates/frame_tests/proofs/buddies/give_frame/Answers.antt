use Rattle.std.proofs.Common.{◌≡◌, ◌<◌, Bool, true, false, List, length, get_or, subst, sym, ap, ◌∙◌, rules}
use Rattle.buddy_pages.specs.FreeFrames.{none_free, with_frames}
use Rattle.frame_tests.proofs.Single.{one_taken, with_one}
use Rattle.frame_tests.proofs.buddies.give_frame.Goals as goal

pub give-requires-clause-taken : goal.give-requires-clause-taken
give-requires-clause-taken c =
    let is : get_or c.args.free.now.items c.args.frame false ≡ false = search rules in
    subst (λ (z : List Bool). none_free z c.args.frame 1 ≡ true) c.requires (one_taken c.args.free.now.items c.args.frame is)

pub returns : goal.returns
returns c =
    let lt : c.args.frame < length c.args.free.now.items = search rules in
    sym (with_one c.args.free.now.items c.args.frame true lt) ∙ ap (λ (z : List Bool). with_frames z c.args.frame 1 true) c.requires ∙ sym c.give.ensures
