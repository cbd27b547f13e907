use Rattle.std.proofs.Common.{◌≡◌, drop}
use Rattle.records_bench.specs.Tests.{past_files}
use Rattle.records_bench.proofs.room.past_files.Given as goal

-- the files that are left, from here on, end where all files do
abbrev pub invariant-loop-file : goal.invariant-loop-file
invariant-loop-file l = past_files l.at (drop l.file-index l.files) ≡ past_files l.from l.files
