use Rattle.std.proofs.Common.{◌≡◌, IsTrue, drop}
use Rattle.std.specs.List.{list_all}
use Rattle.kho_laws.specs.Sessions.{is_carried_session}
use Rattle.kho_writer.specs.Marking.{with_sessions}
use Rattle.kho_writer.proofs.marks.mark_sessions.Given as goal

-- with the sessions that are left, the set is the one that is wanted, and these can be carried too
abbrev pub invariant-loop-session : goal.invariant-loop-session
invariant-loop-session l = record {
  frames : l.tracker.frames ≡ l.fn.tracker.frames;
  marked : with_sessions l.tracker.runs (drop l.session-index l.sessions) ≡ with_sessions l.fn.tracker.runs l.sessions;
  left : IsTrue (list_all (is_carried_session l.fn.tracker.frames) (drop l.session-index l.sessions));
}
