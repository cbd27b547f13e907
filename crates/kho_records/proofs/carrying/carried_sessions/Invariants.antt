use Rattle.std.proofs.Common.{[], map}
use Rattle.record_frames.specs.Ram.{Ram}
use Rattle.record_frames.specs.State.{session_in}
use Rattle.kho_records.proofs.Adding.{Added}
use Rattle.kho_records.proofs.Shown.{one_session}
use Rattle.kho_records.proofs.carrying.carried_sessions.Given as goal

abbrev pub invariant-loop-session : goal.invariant-loop-session
invariant-loop-session l = (ram : Ram) → Added (one_session ram) [] l.sessions l.session-index (map (session_in ram) l.carried.items)
