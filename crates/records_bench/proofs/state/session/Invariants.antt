use Rattle.std.proofs.Common.{◌≡◌, length}
use Rattle.records_bench.proofs.state.session.Given as goal

-- so many files are there
abbrev pub invariant-loop-i : goal.invariant-loop-i
invariant-loop-i l = length l.files.items ≡ l.i
