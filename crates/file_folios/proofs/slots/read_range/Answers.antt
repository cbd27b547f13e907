use Rattle.std.proofs.Common.{arith}
use Rattle.file_folios.proofs.Reading.{read_more}
use Rattle.file_folios.proofs.slots.read_range.Goals as goal

pub loop-done-preserved : goal.loop-done-preserved
loop-done-preserved c = (
  read_more c.args.piece c.args.off c.args.len c.args.slots.now c.args.out.now.items c.args.home.now.value c.args.order c.loop-done.done c.min-part.result c.loop-done.out.items
      c.requires.some c.requires.slots c.loop-done.invariant.0 c.requires.within c.loop-done-test.true c.min-part.ensures
      _ c.index-slots-place.result c.index-slots-place.is
      c.read_part.new.out.items c.read_part.ensures.items,
  omega (arith, c.loop-done.invariant.0.within, c.loop-done.invariant.1, c.read_part.ensures.len, c.read_part.ensures.capacity, c.min-part.ensures),
)
