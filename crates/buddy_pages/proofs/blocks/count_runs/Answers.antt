use Rattle.std.proofs.Common.{◌-◌, arith}
use Rattle.buddy_pages.proofs.Seek.{counting_starts, counting_steps}
use Rattle.buddy_pages.proofs.blocks.count_runs.Goals as goal

pub loop-size-init : goal.loop-size-init
loop-size-init c = counting_starts c.args.map.now c.args.order c.blocks-runs.result c.requires.blocks c.requires.order c.blocks-runs.ensures

pub loop-size-preserved : goal.loop-size-preserved
loop-size-preserved c =
    counting_steps c.args.map.now c.args.order (c.loop-size.size - 1) c.loop-size.size c.loop-size.runs c.blocks-in-loop-size.result c.requires.blocks c.loop-size.invariant
    (omega arith) (omega arith) c.blocks-in-loop-size.ensures
