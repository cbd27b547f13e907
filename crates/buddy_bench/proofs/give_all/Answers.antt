use Rattle.std.proofs.Common.{◌≡◌, ◌⊎◌, ◌+◌, ◌<◌, ◌≤◌, List, Bool, true, length, get_or, subst, sym, ap, ◌∙◌, inl, inr, ⊎_elim, arith}
use Rattle.std.proofs.lemmas.List.{get_or_default}
use Rattle.ho_base.specs.declared.numbers.Pfn.{Pfn}
use Rattle.buddy_pages.specs.FreeFrames.{none_free}
use Rattle.buddy_pages.proofs.Frames.{length-with_frames}
use Rattle.buddy_pages.proofs.Taken.{given_apart}
use Rattle.buddy_bench.proofs.give_all.Goals as goal

pub loop-frame-preserved : goal.loop-frame-preserved
loop-frame-preserved c =
    let lt : c.loop-frame.frame-index < length c.args.frames.now = c.loop-frame-test.true in
    let zero_frame : Pfn = record { 0 = 0 } in
    let fits : (get_or c.args.frames.now c.loop-frame.frame-index (record { 0 = 0 })).0 + 1 ≤ length c.loop-frame.buddy =
    omega (arith, c.requires.within c.loop-frame.frame-index zero_frame lt, c.loop-frame.invariant.long) in
    record {
      long = ap length c.give.ensures ∙ length-with_frames c.loop-frame.buddy (get_or c.args.frames.now c.loop-frame.frame-index (record { 0 = 0 })).0 1 true fits ∙ c.loop-frame.invariant.long;
      taken = λ k d from to.
          let here : get_or c.args.frames.now c.loop-frame.frame-index d ≡ get_or c.args.frames.now c.loop-frame.frame-index (record { 0 = 0 }) =
          get_or_default c.args.frames.now c.loop-frame.frame-index d (record { 0 = 0 }) lt in
          let same : (get_or c.args.frames.now c.loop-frame.frame-index d).0 ≡ (get_or c.args.frames.now c.loop-frame.frame-index (record { 0 = 0 })).0 = ap (λ (z : Pfn). z.0) here in
          let apart : ((get_or c.args.frames.now k d).0 + 1 ≤ (get_or c.args.frames.now c.loop-frame.frame-index (record { 0 = 0 })).0) ⊎ ((get_or c.args.frames.now c.loop-frame.frame-index (record { 0 = 0 })).0 + 1 ≤ (get_or c.args.frames.now k d).0) =
          ⊎_elim (λ (l : (get_or c.args.frames.now c.loop-frame.frame-index d).0 + 1 ≤ (get_or c.args.frames.now k d).0). inr (omega arith))
          (λ (l : (get_or c.args.frames.now k d).0 + 1 ≤ (get_or c.args.frames.now c.loop-frame.frame-index d).0). inl (omega arith))
          (c.requires.apart c.loop-frame.frame-index k d (omega arith) to) in
          subst (λ (z : List Bool). none_free z (get_or c.args.frames.now k d).0 1 ≡ true) (sym c.give.ensures)
          (given_apart c.loop-frame.buddy (get_or c.args.frames.now k d).0 (get_or c.args.frames.now c.loop-frame.frame-index (record { 0 = 0 })).0 1 fits apart
          (c.loop-frame.invariant.taken k d (omega arith) to));
    }
