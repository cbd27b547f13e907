use Rattle.std.proofs.Common.{◌≡◌, Bool, true, false, List, replicate, set, ap, ◌∙◌, rules}
use Rattle.frame_tests.proofs.Single.{all_is}
use Rattle.frame_tests.proofs.buddies.first_free.Goals as goal

pub returns : goal.returns
returns c =
    let is : c.in_ok-free.free.items ≡ replicate c.args.frames true = search rules in
    ap (λ (z : List Bool). set z 0 false) is ∙ all_is c.args.frames c.requires
