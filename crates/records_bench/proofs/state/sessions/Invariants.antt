use Rattle.std.proofs.Common.{◌≡◌, length}
use Rattle.records_bench.proofs.state.sessions.Given as goal

-- so many sessions are there
abbrev pub invariant-loop-i : goal.invariant-loop-i
invariant-loop-i l = length l.sessions.items ≡ l.i
