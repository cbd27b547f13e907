use Rattle.std.proofs.Common.{◌≡◌, length}
use Rattle.ho_events.specs.Lists.{firsts}
use Rattle.pool_core.specs.PoolFramesValues.{unmark_runs, EachMarked}
use Rattle.pool_core.proofs.frames.marking.unmark_all.Given as goal

-- the runs that are left lead from here to what all lead to from the first
abbrev pub invariant-loop-run : goal.invariant-loop-run
invariant-loop-run l =
    (unmark_runs l.fn.order.0 (firsts l.left) l.marks.runs ≡ unmark_runs l.fn.order.0 (firsts l.runs) l.initial.marks.runs)
    × (l.marks.frames ≡ l.initial.marks.frames)
    × EachMarked l.fn.order.0 l.left l.marks.runs

abbrev pub decreases-loop-run : goal.decreases-loop-run
decreases-loop-run l = length l.left
