use Rattle.std.proofs.Common.{◌<◌, false, length, get_or, refl, ap, ◌∙◌, rules, arith}
use Rattle.std.proofs.lemmas.List.{take_all, length-set}
use Rattle.ho_base.specs.declared.numbers.Pfn.{Pfn}
use Rattle.buddy_pages.specs.FreeFrames.{without_runs}
use Rattle.frame_tests.proofs.Single.{without_more, without_none}
use Rattle.frame_tests.proofs.buddies.mark_taken.Goals as goal

pub loop-frame-init : goal.loop-frame-init
loop-frame-init c = record { same = without_none c.args.free.now.items; long = refl }

pub loop-frame-preserved : goal.loop-frame-preserved
loop-frame-preserved c =
    let lt : c.loop-frame.frame-index < length c.args.taken.now = c.loop-frame-test.true in
    let first : Pfn = record { 0 = 0 } in
    let below : (get_or c.args.taken.now c.loop-frame.frame-index (record { 0 = 0 })).0 < length c.loop-frame.free.items =
    omega (arith, c.requires c.loop-frame.frame-index first lt, c.loop-frame.invariant.long) in
    record {
      same = without_more c.args.free.now.items c.loop-frame.free.items c.args.taken.now c.loop-frame.frame-index (record { 0 = 0 }) lt c.loop-frame.invariant.same below;
      long = length-set c.loop-frame.free.items (get_or c.args.taken.now c.loop-frame.frame-index (record { 0 = 0 })).0 false ∙ c.loop-frame.invariant.long;
    }

pub returns : goal.returns
returns c = c.loop-frame.invariant.same ∙ ap (without_runs 0 c.args.free.now.items) (take_all c.loop-frame.frame-index c.args.taken.now (search rules))
