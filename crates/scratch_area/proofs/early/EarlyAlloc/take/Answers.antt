-- The numbers that are handed out follow those before.
use Rattle.std.proofs.Common.{◌+◌, ◌++◌, ap, ◌∙◌}
use Rattle.std.specs.List.{range_with_len}
use Rattle.scratch_area.specs.EarlyFrames.{EarlyFrames, handed_out}
use Rattle.scratch_area.proofs.Ranges.{range_append}
use Rattle.scratch_area.proofs.early.EarlyAlloc.take.Goals as goal

pub returns-clause-rising : goal.returns-clause-rising
returns-clause-rising c =
    range_append c.self.inside.area.first.0 c.self.inside.taken c.args.frames
    ∙ ap (λ (e : EarlyFrames). handed_out e ++ range_with_len (c.self.inside.area.first.0 + c.self.inside.taken) c.args.frames) c.self.view_is
