-- The next frame of the program is home, since it is as it was; and it is written beside those before it.
use Rattle.std.proofs.Common.{◌≡◌, ℕ, ◌+◌, inr, List, Option, None, sym, subst, arith}
use Rattle.std.specs.Option.{IsSome}
use Rattle.ho_base.specs.declared.numbers.Pfn.{Pfn}
use Rattle.phys_frames.specs.Memory.{page_at}
use Rattle.scratch_area.proofs.blob.load_blob.Goals as goal

pub load_page-requires : goal.load_page-requires
load_page-requires c =
    let p : Pfn = record { 0 = c.args.at.0 + c.loop-i.i } in
    let stays : page_at c.loop-i.frames p ≡ page_at c.args.frames.now p = c.loop-i.invariant.others p (inr (omega arith)) in
    subst (λ (page : Option (List ℕ)). IsSome page) (sym stays) (c.requires.1 (c.args.at.0 + c.loop-i.i) None (omega arith) (omega arith))
