use Rattle.std.proofs.Common.{◌≡◌, IsTrue, drop}
use Rattle.std.specs.List.{list_all}
use Rattle.ho_events.specs.Lists.{firsts}
use Rattle.record_frames.specs.Rules.{is_run}
use Rattle.kho_writer.specs.Marking.{with_runs}
use Rattle.kho_writer.proofs.marks.mark_runs.Given as goal

-- with the runs that are left, the set is the one that is wanted, and these are runs too
abbrev pub invariant-loop-run : goal.invariant-loop-run
invariant-loop-run l = record {
  frames : l.tracker.frames ≡ l.fn.tracker.frames;
  marked : with_runs l.order.0 l.tracker.runs (drop l.run-index l.runs) ≡ with_runs l.order.0 l.fn.tracker.runs l.runs;
  left : IsTrue (list_all (is_run l.fn.tracker.frames l.order.0) (firsts (drop l.run-index l.runs)));
}
