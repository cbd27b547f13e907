use Rattle.std.proofs.Common.{◌∙◌, ap, true}
use Rattle.pool_core.proofs.PoolAsking.{pins_then, pins_else, test_false}
use Rattle.pool_core.proofs.frames.pool.PoolFrames.pins.Goals as goal

pub returns-then-p-frames : goal.returns-then-p-frames
returns-then-p-frames c = pins_then c.self.inside.table c.self.inside.marks.runs c.args.self.now c.self.view_is c.args.p c.marks_hold.result c.frames.result (c.frames.ensures ∙ ap (λ s. s.frames) c.shape.ensures) c.if-p-frames.true c.marks_hold.ensures

pub returns-else-p-frames : goal.returns-else-p-frames
returns-else-p-frames c =
    test_false c.args.p c.frames.result c.if-p-frames.false
    ∙ pins_else c.self.inside.table c.self.inside.marks.runs c.args.self.now c.self.view_is c.args.p true c.frames.result (c.frames.ensures ∙ ap (λ s. s.frames) c.shape.ensures) c.if-p-frames.false
