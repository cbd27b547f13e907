use Rattle.std.proofs.Common.{map}
use Rattle.ho_events.specs.Lists.{firsts}
use Rattle.record_frames.specs.Owners.{single}
use Rattle.kho_records.specs.Owned.{run_view}
use Rattle.kho_records.proofs.Adding.{Added}
use Rattle.kho_records.proofs.RunLists.{session_runs}
use Rattle.kho_records.proofs.users.used_runs.Given as goal

abbrev pub invariant-loop-session : goal.invariant-loop-session
invariant-loop-session l = Added session_runs (map single (firsts l.frames)) l.sessions l.session-index (map run_view l.users.items)
