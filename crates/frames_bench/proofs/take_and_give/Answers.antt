use Rattle.std.proofs.Common.{◌≡◌, ◌≤◌, length, sym, ap, subst, ◌∙◌, arith}
use Rattle.ho_base.specs.declared.numbers.Pfn.{Pfn}
use Rattle.phys_frames.specs.Memory.{Memory, FolioValue, AllHome, frames_in, with_folio, without_run}
use Rattle.phys_frames.proofs.Runs.{few_frames}
use Rattle.frames_bench.proofs.Rounds.{as_many, all_again}
use Rattle.frames_bench.proofs.take_and_give.Goals as goal

pub take-run-requires-clause-home : goal.take-run-requires-clause-home
take-run-requires-clause-home c =
    (omega (arith, few_frames c.args.order.0 c.requires.order, c.requires.count), λ j d above below. c.requires.home j d (omega (arith, few_frames c.args.order.0 c.requires.order, c.requires.count, below)))

pub returns-clause-home : goal.returns-clause-home
returns-clause-home c =
    let m : Memory = c.args.frames.now in let f : FolioValue = c.write.new.self in
    let first = ap (λ (r : FolioValue). r.first) c.write.ensures ∙ c.take-run.ensures.first in let order = ap (λ (r : FolioValue). r.order) c.write.ensures ∙ c.take-run.ensures.order in
    let few : frames_in f.order ≤ length m.pages = omega (arith, ap frames_in order, few_frames c.args.order.0 c.requires.order, c.requires.count) in
    let back : c.give.new.self ≡ with_folio (without_run m f.first f.order) f = c.give.ensures.home ∙ ap (λ (t : Memory). with_folio t f) (c.take-run.ensures.out ∙ (λ i. without_run m (sym first i) (sym order i))) in
    subst AllHome (sym back) (all_again m f (ap (λ (p : Pfn). p.0) first) few c.requires.home)

pub returns-clause-count : goal.returns-clause-count
returns-clause-count c =
    let m : Memory = c.args.frames.now in let f : FolioValue = c.write.new.self in
    let first = ap (λ (r : FolioValue). r.first) c.write.ensures ∙ c.take-run.ensures.first in let order = ap (λ (r : FolioValue). r.order) c.write.ensures ∙ c.take-run.ensures.order in
    let few : frames_in f.order ≤ length m.pages = omega (arith, ap frames_in order, few_frames c.args.order.0 c.requires.order, c.requires.count) in
    let back : c.give.new.self ≡ with_folio (without_run m f.first f.order) f = c.give.ensures.home ∙ ap (λ (t : Memory). with_folio t f) (c.take-run.ensures.out ∙ (λ i. without_run m (sym first i) (sym order i))) in
    ap (λ (x : Memory). length x.pages) back ∙ as_many m f (ap (λ (p : Pfn). p.0) first) few
