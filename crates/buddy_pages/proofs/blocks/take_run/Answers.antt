use Rattle.std.proofs.Common.{◌-◌, arith}
use Rattle.buddy_pages.proofs.Frames.{IsRun-from}
use Rattle.buddy_pages.specs.Blocks.{free_frames}
use Rattle.buddy_pages.proofs.Take.{taking_starts, other_is, taking_goes_on, taking_ends}
use Rattle.buddy_pages.proofs.blocks.take_run.Goals as goal

pub loop-size-init : goal.loop-size-init
loop-size-init c =
    taking_starts c.args.map.now c.clear.new.self c.args.first c.args.order c.block_order-size.result c.start_of.result c.requires.blocks c.block_order-size.ensures.greater c.block_order-size.ensures.block c.start_of.ensures c.clear.ensures

pub give_run-requires-clause-aligned : goal.give_run-requires-clause-aligned
give_run-requires-clause-aligned c =
    (other_is c.loop-size.map c.args.first c.args.order (c.loop-size.size - 1) c.start_of-half.result c.buddy_of.result c.loop-size.size c.args.map.now c.loop-size.invariant (omega arith) c.start_of-half.ensures c.buddy_of.ensures).0

pub give_run-requires-clause-within : goal.give_run-requires-clause-within
give_run-requires-clause-within c =
    (other_is c.loop-size.map c.args.first c.args.order (c.loop-size.size - 1) c.start_of-half.result c.buddy_of.result c.loop-size.size c.args.map.now c.loop-size.invariant (omega arith) c.start_of-half.ensures c.buddy_of.ensures).1

pub give_run-requires-clause-later : goal.give_run-requires-clause-later
give_run-requires-clause-later c =
    (other_is c.loop-size.map c.args.first c.args.order (c.loop-size.size - 1) c.start_of-half.result c.buddy_of.result c.loop-size.size c.args.map.now c.loop-size.invariant (omega arith) c.start_of-half.ensures c.buddy_of.ensures).2

pub give_run-requires-clause-taken : goal.give_run-requires-clause-taken
give_run-requires-clause-taken c =
    (other_is c.loop-size.map c.args.first c.args.order (c.loop-size.size - 1) c.start_of-half.result c.buddy_of.result c.loop-size.size c.args.map.now c.loop-size.invariant (omega arith) c.start_of-half.ensures c.buddy_of.ensures).3

pub loop-size-preserved : goal.loop-size-preserved
loop-size-preserved c =
    taking_goes_on c.args.map.now c.loop-size.map c.give_run.new.map c.args.first c.args.order (c.loop-size.size - 1) c.start_of-half.result c.buddy_of.result c.loop-size.size
    c.loop-size.invariant (omega arith) (omega arith) c.start_of-half.ensures c.buddy_of.ensures c.give_run.ensures.blocks c.give_run.ensures.frames c.give_run.ensures.set

pub returns-clause-set : goal.returns-clause-set
returns-clause-set c =
    taking_ends c.args.map.now c.loop-size.map c.args.first c.args.order c.loop-size.size c.loop-size.invariant (omega arith)
    (IsRun-from (free_frames c.args.map.now) c.args.order c.args.first c.requires.run).aligned
