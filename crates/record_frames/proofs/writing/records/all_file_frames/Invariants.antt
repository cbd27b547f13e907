use Rattle.std.proofs.Common.{◌≡◌, ◌≤◌, take}
use Rattle.record_frames.specs.Writing.{files_of_sessions}
use Rattle.record_frames.proofs.writing.records.all_file_frames.Given as goal

abbrev pub invariant-loop-i : goal.invariant-loop-i
invariant-loop-i l = record {
  so_far : l.count ≡ files_of_sessions (take l.i l.sessions);
  few : l.count ≤ l.i;
}
