use Rattle.pool_core.proofs.PoolMarking.{mark_runs_are, mark_keeps, mark_value}
use Rattle.pool_core.proofs.frames.pool.PoolFrames.mark.Goals as goal

pub mark_all-requires : goal.mark_all-requires
mark_all-requires c = mark_runs_are c.self.inside.table c.self.inside.buddy c.self.inside.marks c.args.self.now c.args.order.0 c.args.runs.now c.self.invariant c.self.view_is c.requires.legal

pub invariant_of-self : goal.invariant_of-self
invariant_of-self c = mark_keeps c.self.inside.table c.self.inside.buddy c.self.inside.marks c.args.self.now c.args.order.0 c.args.runs.now c.self.invariant c.self.view_is c.requires.legal c.mark_all.new.marks c.mark_all.ensures

pub returns : goal.returns
returns c = mark_value c.self.inside.table c.self.inside.buddy c.self.inside.marks c.args.self.now c.args.order.0 c.args.runs.now c.self.invariant c.self.view_is c.requires.legal c.mark_all.new.marks c.mark_all.ensures
