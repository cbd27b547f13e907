use Rattle.std.proofs.Common.{◌≡◌, ◌≤◌}
use Rattle.ho_base.specs.declared.limits.TheConstants.{FILES}
use Rattle.record_frames.specs.Rules.{version_1}
use Rattle.record_frames.specs.Reading.{session_at}
use Rattle.record_frames.specs.Slots.{session_view}
use Rattle.record_frames.specs.Sessions.{session_record, seen_of}
use Rattle.record_frames.specs.Sheeted.{ram_of}
use Rattle.record_frames.proofs.EachItem.{AreRead}
use Rattle.record_frames.proofs.sessions.read_sessions.Given as goal

abbrev pub invariant-loop-slot : goal.invariant-loop-slot
invariant-loop-slot l = record {
  read : AreRead (session_at version_1 (ram_of l.frames)) (seen_of l.fn.seen.numbers 0) session_view session_record l.slots l.slot-index l.sessions.items (seen_of l.seen.numbers l.before);
  count : l.seen.count ≡ l.fn.seen.count;
  few : l.before ≤ FILES;
}
