use Rattle.std.proofs.Common.{◌<◌, get_or, rules}
use Rattle.buddy_pages.proofs.Seek.{searching_begins, searching_steps, searching_finds}
use Rattle.buddy_pages.proofs.blocks.next_run.Goals as goal

pub loop-first-init : goal.loop-first-init
loop-first-init c = searching_begins c.args.map.now c.args.at c.args.order c.requires.aligned c.requires.none c.requires.some

pub loop-first-preserved : goal.loop-first-preserved
loop-first-preserved c =
    searching_steps c.args.map.now c.args.at c.args.order c.loop-first.first c.run_len-first.result c.tag.result c.requires.blocks c.requires.order c.requires.some
    c.loop-first.invariant c.tag.ensures c.loop-first-test.true c.run_len-first.ensures

pub returns-clause-run : goal.returns-clause-run
returns-clause-run c =
    let l : c.args.order < get_or c.args.map.now c.loop-first.first 0 = search rules in
    searching_finds c.args.map.now c.requires.blocks c.args.at c.args.order c.loop-first.first c.loop-first.invariant l
