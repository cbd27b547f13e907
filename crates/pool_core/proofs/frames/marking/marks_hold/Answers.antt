use Rattle.std.proofs.Common.{arith}
use Rattle.pool_core.proofs.PoolAsking.{marks_here, marks_none}
use Rattle.pool_core.proofs.frames.marking.marks_hold.Goals as goal

pub returns-then-has : goal.returns-then-has
returns-then-has c = marks_here c.args.marks.now.runs c.args.p.0 c.loop-o.o c.start_of.result.0 c.has.result c.loop-o-test.true c.start_of.ensures c.has.ensures c.if-has.true

pub returns : goal.returns
returns c = marks_none c.args.marks.now.runs c.args.p.0 c.loop-o.o (omega (arith, c.loop-o-test.false, c.loop-o.auto.o-end)) c.loop-o.invariant
