use Rattle.std.proofs.Common.{arith}
use Rattle.file_folios.proofs.Cutting.{listing_begins, listing_more, listing_ends, listing_room}
use Rattle.file_folios.proofs.slots.add_runs.Goals as goal

pub loop-at-init : goal.loop-at-init
loop-at-init c = (listing_begins c.args.slots.now c.args.runs.now.items, c.requires)

pub add_run-requires : goal.add_run-requires
add_run-requires c = omega (arith, c.loop-at.invariant.1, listing_room c.args.slots.now c.loop-at.at _ c.index-slots-at.result c.loop-at-test.true c.index-slots-at.is)

pub loop-at-preserved : goal.loop-at-preserved
loop-at-preserved c = (
  listing_more c.args.slots.now c.args.runs.now.items c.loop-at.at c.loop-at.runs.items c.loop-at.invariant.0 _ c.index-slots-at.result c.add_run.new.runs.items c.loop-at-test.true c.index-slots-at.is c.add_run.ensures.items,
  omega (arith, c.loop-at.invariant.1, listing_room c.args.slots.now c.loop-at.at _ c.index-slots-at.result c.loop-at-test.true c.index-slots-at.is, c.add_run.ensures.len, c.add_run.ensures.capacity),
)

pub returns : goal.returns
returns c = listing_ends c.args.slots.now c.args.runs.now.items c.loop-at.at c.loop-at.runs.items c.loop-at.invariant.0 (omega arith)
