use Rattle.std.proofs.Common.{◌≡◌, length}
use Rattle.luo_calls.specs.Closing.{have_own_numbers}
use Rattle.luo_calls.proofs.commands.close_files.are_all_different.Given as goal

-- those that are left are different exactly where all are
abbrev pub invariant-loop-kept : goal.invariant-loop-kept
invariant-loop-kept l = have_own_numbers l.left ≡ have_own_numbers l.files

abbrev pub decreases-loop-kept : goal.decreases-loop-kept
decreases-loop-kept l = length l.left
