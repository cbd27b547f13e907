use Rattle.std.proofs.Common.{◌≡◌, ◌+◌, ◌*◌, ◌≤◌, take}
use Rattle.std.specs.List.{sum_by}
use Rattle.record_frames.specs.State.{session_frames}
use Rattle.record_frames.proofs.carried.need.Given as goal

abbrev pub invariant-loop-session : goal.invariant-loop-session
invariant-loop-session l = record {
  so_far : l.count ≡ 2 + sum_by session_frames (take l.session-index l.carried.sessions);
  few : l.count ≤ 2 + 1024 * l.session-index;
}
