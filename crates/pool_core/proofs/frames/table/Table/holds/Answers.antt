use Rattle.std.proofs.Common.{arith}
use Rattle.pool_core.proofs.PoolAsking.{holds_here, holds_none}
use Rattle.pool_core.proofs.frames.table.Table.holds.Goals as goal

pub returns-then-begins : goal.returns-then-begins
returns-then-begins c = holds_here c.args.self.now.tags c.args.p.0 c.loop-o.o c.start_of.result.0 c.begins.result c.loop-o-test.true c.start_of.ensures c.begins.ensures c.if-begins.true

pub returns : goal.returns
returns c = holds_none c.args.self.now.tags c.args.p.0 c.loop-o.o (omega (arith, c.loop-o-test.false, c.loop-o.auto.o-end)) c.loop-o.invariant
