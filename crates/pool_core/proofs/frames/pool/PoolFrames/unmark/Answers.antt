use Rattle.pool_core.proofs.PoolMarking.{unmark_runs_are, unmark_keeps, unmark_value}
use Rattle.pool_core.proofs.frames.pool.PoolFrames.unmark.Goals as goal

pub unmark_all-requires : goal.unmark_all-requires
unmark_all-requires c = unmark_runs_are c.self.inside.table c.self.inside.buddy c.self.inside.marks c.args.self.now c.args.order.0 c.args.runs.now c.self.invariant c.self.view_is c.requires.legal

pub invariant_of-self : goal.invariant_of-self
invariant_of-self c = unmark_keeps c.self.inside.table c.self.inside.buddy c.self.inside.marks c.args.self.now c.args.order.0 c.args.runs.now c.self.invariant c.self.view_is c.requires.legal c.unmark_all.new.marks c.unmark_all.ensures

pub returns : goal.returns
returns c = unmark_value c.self.inside.table c.self.inside.buddy c.self.inside.marks c.args.self.now c.args.order.0 c.args.runs.now c.self.invariant c.self.view_is c.requires.legal c.unmark_all.new.marks c.unmark_all.ensures
