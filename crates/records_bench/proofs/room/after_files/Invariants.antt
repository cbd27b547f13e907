use Rattle.std.proofs.Common.{◌≡◌, ◌+◌, take}
use Rattle.std.specs.List.{sum_by}
use Rattle.record_frames.specs.State.{list_frames}
use Rattle.records_bench.proofs.room.after_files.Given as goal

-- the frames that are left, and those of the files so far
abbrev pub invariant-loop-file : goal.invariant-loop-file
invariant-loop-file l = l.left + sum_by list_frames (take l.file-index l.files) ≡ l.count
