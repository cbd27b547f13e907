use Rattle.std.proofs.Common.{arith}
use Rattle.record_frames.specs.Sheeted.{ram_of}
use Rattle.kho_records.proofs.Held.{HoldsPage, held, all_held}
use borrow.Author.Count.{below_more}
use Rattle.kho_records.proofs.pages.hold_pages.Goals as goal

pub loop-p-preserved : goal.loop-p-preserved
loop-p-preserved c =
    below_more (HoldsPage (ram_of c.args.frames.now)) c.loop-p.p c.loop-p.invariant
    (held c.args.frames.now c.loop-p.p c.page.result.now c.page.ensures.value c.page.ensures.len c.are_bytes.ensures)

pub returns : goal.returns
returns c = all_held (ram_of c.args.frames.now) (λ p lt. c.loop-p.invariant p (omega (arith, lt)))
