use Rattle.buddy_pages.proofs.Seek.{seeking_begins, seeking_steps}
use Rattle.buddy_pages.proofs.blocks.block_order.Goals as goal

pub loop-size-init : goal.loop-size-init
loop-size-init c = seeking_begins c.args.map.now c.requires.blocks c.args.first c.args.order c.requires.order c.requires.run

pub loop-size-preserved : goal.loop-size-preserved
loop-size-preserved c =
    seeking_steps c.args.map.now c.args.first c.args.order c.loop-size.size c.start_of.result c.tag.result c.requires.blocks c.requires.run c.loop-size.invariant
    c.start_of.ensures c.tag.ensures c.loop-size-test.true
