use Rattle.std.proofs.Common.{◌≡◌, ◌<◌, Bool, true, false, List, length, get_or, subst, sym, ap, ◌∙◌, rules}
use Rattle.std.proofs.lemmas.List.{get_or_default}
use Rattle.buddy_pages.specs.FreeFrames.{is_free_run, with_frames}
use Rattle.frame_tests.proofs.Single.{one_run, with_one}
use Rattle.frame_tests.proofs.buddies.reserve_frame.Goals as goal

pub reserve-requires-clause-run : goal.reserve-requires-clause-run
reserve-requires-clause-run c =
    let lt : c.args.frame < length c.args.free.now.items = search rules in
    let read : get_or c.args.free.now.items c.args.frame c.index.result.now ≡ true = search rules in
    let is : get_or c.args.free.now.items c.args.frame false ≡ true = get_or_default c.args.free.now.items c.args.frame false c.index.result.now lt ∙ read in
    subst (λ (z : List Bool). is_free_run z 0 c.args.frame ≡ true) c.requires (one_run c.args.free.now.items c.args.frame is)

pub returns : goal.returns
returns c =
    let lt : c.args.frame < length c.args.free.now.items = search rules in
    sym (with_one c.args.free.now.items c.args.frame false lt) ∙ ap (λ (z : List Bool). with_frames z c.args.frame 1 false) c.requires ∙ sym c.reserve.ensures
