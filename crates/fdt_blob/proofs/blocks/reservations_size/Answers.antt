use Rattle.std.proofs.Common.{◌≡◌, ◌∙◌, false, take, arith}
use Rattle.std.specs.Prelude.{nat_eq}
use Rattle.std.specs.List.{list_all}
use Rattle.fdt_blob.proofs.Pairs.{pairs_more}
use Rattle.fdt_blob.proofs.blocks.reservations_size.Goals as goal

pub loop-done-preserved : goal.loop-done-preserved
loop-done-preserved c =
    let other : list_all (nat_eq 0) (take 16 c.loop-done.rest.now) ≡ false = rw (← c.split_at.ensures.front, ← c.is_zero.ensures) c.if-is_zero.false in
    let more = pairs_more c.args.count c.loop-done.done c.loop-done.rest.now c.loop-done-test.true other in
    (rw c.split_at.ensures.back (c.loop-done.invariant.0 ∙ more), omega arith)
