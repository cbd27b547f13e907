use Rattle.std.proofs.Common.{ℕ, ◌+◌, ◌≤◌, Result, subst, ◌∙◌}
use Rattle.std.specs.Prelude.{IfOk}
use Rattle.ho_base.specs.declared.limits.TheConstants.{FILES}
use Rattle.record_frames.specs.Rules.{version_1}
use Rattle.record_frames.specs.Reading.{session_at}
use Rattle.record_frames.specs.Slots.{session_view}
use Rattle.record_frames.specs.Sessions.{session_record, seen_of, TellsSession}
use Rattle.record_frames.specs.Sheeted.{ram_of}
use Rattle.record_frames.specs.declared.sessions.SessionRead.{SessionRead}
use Rattle.record_frames.proofs.EachItem.{more, refused, ended}
use Rattle.record_frames.proofs.sessions.read_sessions.Goals as goal

pub loop-slot-preserved : goal.loop-slot-preserved
loop-slot-preserved c =
    let slot = c.slot-item.result in
    let Told : Result SessionRead ℕ → Type 0 = λ r. TellsSession (ram_of c.args.frames.now) c.loop-slot.seen.numbers c.read_session.new.seen.numbers c.loop-slot.before slot r in
    let Few : Result SessionRead ℕ → Type 0 = λ r. IfOk r (λ s. c.loop-slot.before + slot.files ≤ FILES) in
    record {
      read = more (session_at version_1 (ram_of c.args.frames.now)) (seen_of c.args.seen.now.numbers 0) session_view session_record c.args.slots.now c.loop-slot.slot-index
          c.loop-slot.sessions.items c.push.new.self.items (seen_of c.loop-slot.seen.numbers c.loop-slot.before)
          (seen_of c.read_session.new.seen.numbers (c.loop-slot.before + slot.files)) slot slot c.in-Ok.session c.loop-slot.invariant.read c.loop-slot-test.true c.slot-item.is
          (subst Told c.in-Ok.is c.in_ok-session.ensures.read) c.in_ok-push-in-Ok.ensures.items;
      count = c.in_ok-session.ensures.count ∙ c.loop-slot.invariant.count;
      few = subst Few c.in-Ok.is c.in_ok-session.ensures.few;
    }

pub returns-in-Err-clause-read : goal.returns-in-Err-clause-read
returns-in-Err-clause-read c =
    let slot = c.slot-item.result in
    let Told : Result SessionRead ℕ → Type 0 = λ r. TellsSession (ram_of c.args.frames.now) c.loop-slot.seen.numbers c.read_session.new.seen.numbers c.loop-slot.before slot r in
    refused (session_at version_1 (ram_of c.args.frames.now)) (seen_of c.args.seen.now.numbers 0) session_view session_record c.args.slots.now c.loop-slot.slot-index
    c.loop-slot.sessions.items (seen_of c.loop-slot.seen.numbers c.loop-slot.before) slot slot c.in-Err.at c.loop-slot.invariant.read c.loop-slot-test.true c.slot-item.is
    (subst Told c.in-Err.is c.in_ok-session.ensures.read)

pub returns-clause-read : goal.returns-clause-read
returns-clause-read c = (
  c.loop-slot.before,
  ended (session_at version_1 (ram_of c.args.frames.now)) (seen_of c.args.seen.now.numbers 0) session_view session_record c.args.slots.now c.loop-slot.slot-index
      c.loop-slot.sessions.items (seen_of c.loop-slot.seen.numbers c.loop-slot.before) c.loop-slot.invariant.read c.loop-slot-test.false,
)
