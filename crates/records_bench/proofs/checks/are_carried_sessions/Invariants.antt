use Rattle.std.proofs.Common.{IsTrue, take}
use Rattle.std.specs.List.{list_all}
use Rattle.kho_laws.specs.Sessions.{is_carried_session}
use Rattle.records_bench.specs.FileTests.{is_memfd}
use Rattle.records_bench.proofs.checks.are_carried_sessions.Given as goal

-- the sessions so far can be carried, and have memfds alone
abbrev pub invariant-loop-session : goal.invariant-loop-session
invariant-loop-session l = record {
  can : IsTrue (list_all (is_carried_session l.frames) (take l.session-index l.sessions));
  memfds : IsTrue (list_all (λ s. list_all is_memfd s.files) (take l.session-index l.sessions));
}
