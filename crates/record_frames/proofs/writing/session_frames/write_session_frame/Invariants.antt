use Rattle.std.proofs.Common.{◌≡◌, ◌≤◌, ◌+◌, ◌*◌, ℕ, List, take, length}
use Rattle.record_frames.specs.Writing.{holding, frames_of, files_of_sessions}
use Rattle.record_frames.proofs.WrittenSessions.{session_start}
use Rattle.record_frames.proofs.writing.session_frames.write_session_frame.Given as goal

abbrev pub invariant-loop-i : goal.invariant-loop-i
invariant-loop-i l = record {
  front : (lists : List ℕ) → l.folio ≡ holding l.fn.folio (session_start (length l.sessions) (frames_of l.files) lists (take l.i l.sessions));
  long : (lists : List ℕ) → length (session_start (length l.sessions) (frames_of l.files) lists (take l.i l.sessions)) ≡ 128 + 128 * l.i;
  files : l.at ≡ files_of_sessions (take l.i l.sessions);
  few : l.at ≤ l.i;
}
