use Rattle.std.proofs.Common.{◌≡◌, ◌+◌, length, take}
use Rattle.ho_base.specs.declared.limits.TheConstants.{FILES}
use Rattle.record_frames.specs.Writing.{files_in}
use Rattle.records_bench.proofs.checks.are_few.Given as goal

-- the files so far, and how many there may be beside them
abbrev pub invariant-loop-session : goal.invariant-loop-session
invariant-loop-session l = length (files_in (take l.session-index l.sessions)) + l.left ≡ FILES
