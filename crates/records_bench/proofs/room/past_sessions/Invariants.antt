use Rattle.std.proofs.Common.{◌≡◌, drop}
use Rattle.records_bench.specs.Tests.{past_sessions}
use Rattle.records_bench.proofs.room.past_sessions.Given as goal

-- the sessions that are left, from here on, end where all sessions do
abbrev pub invariant-loop-session : goal.invariant-loop-session
invariant-loop-session l = past_sessions l.at (drop l.session-index l.sessions) ≡ past_sessions l.from l.sessions
