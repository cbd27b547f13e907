use Rattle.std.proofs.Common.{◌≡◌, ◌+◌, take}
use Rattle.std.specs.List.{sum_by}
use Rattle.record_frames.specs.State.{session_frames}
use Rattle.records_bench.proofs.room.after_sessions.Given as goal

-- the frames that are left, and those of the sessions so far
abbrev pub invariant-loop-session : goal.invariant-loop-session
invariant-loop-session l = l.left + sum_by session_frames (take l.session-index l.sessions) ≡ l.count
