use Rattle.std.proofs.Common.{◌≡◌, ◌+◌, ◌*◌, ◌≤◌, cond, length, take}
use Rattle.std.specs.Prelude.{nat_lt}
use Rattle.std.specs.List.{sum_by}
use Rattle.record_frames.specs.State.{list_frames}
use Rattle.record_frames.proofs.carried.session_frames.Given as goal

abbrev pub invariant-loop-file : goal.invariant-loop-file
invariant-loop-file l = record {
  so_far : l.count ≡ cond (nat_lt 0 (length l.session.files)) 1 0 + sum_by list_frames (take l.file-index l.session.files);
  few : l.count ≤ 1 + 33 * l.file-index;
}
