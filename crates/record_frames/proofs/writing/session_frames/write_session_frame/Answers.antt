use Rattle.std.proofs.Common.{◌≡◌, ℕ, [], length, take, drop, get_or, refl, ap, ◌∙◌, arith}
use Rattle.record_frames.specs.Writing.{frames_of, file_frames}
use Rattle.record_frames.proofs.WrittenBytes.{holds_page}
use Rattle.record_frames.proofs.WrittenSessions.{session_start, session_begins, session_longer, session_more, session_done, files_more}
use Rattle.record_frames.proofs.writing.session_frames.write_session_frame.Goals as goal

pub loop-i-init : goal.loop-i-init
loop-i-init c = record {
  front = λ lists. session_begins c.args.folio.now c.begin_frame.new.folio (length c.args.sessions.now) (frames_of c.args.files.now) lists c.begin_frame.ensures;
  long = λ lists. refl;
  files = refl;
  few = omega arith;
}

pub put_session_slot-requires-clause-size : goal.put_session_slot-requires-clause-size
put_session_slot-requires-clause-size c =
    let start = session_start (length c.args.sessions.now) (frames_of c.args.files.now) [] (take c.loop-i.i c.args.sessions.now) in
    holds_page c.args.folio.now c.loop-i.folio start (omega (arith, c.loop-i.invariant.long [], c.loop-i-test.true, c.requires.few)) (c.loop-i.invariant.front [])

first_is : (c : goal.After-put_session_slot) → c.first_number-first.result ≡ get_or (take (file_frames c.index-sessions-i.result) (drop c.loop-i.at (frames_of c.args.files.now))) 0 0
first_is c = c.first_number-first.ensures ∙ ap (λ (k : ℕ). get_or (take k (drop c.loop-i.at (frames_of c.args.files.now))) 0 0) c.file_frames-count.ensures.value

pub loop-i-preserved : goal.loop-i-preserved
loop-i-preserved c = record {
  front = λ lists.
      session_more c.args.folio.now c.loop-i.folio c.put_session_slot.new.folio (length c.args.sessions.now) (frames_of c.args.files.now) lists c.args.sessions.now c.loop-i.i
      c.first_number-first.result c.loop-i.at c.index-sessions-i.result c.loop-i-test.true c.index-sessions-i.is c.loop-i.invariant.files (first_is c) (c.loop-i.invariant.long lists)
      c.put_session_slot.ensures.len c.requires.few (c.loop-i.invariant.front lists) c.put_session_slot.ensures.slot;
  long = λ lists.
      session_longer c.args.folio.now c.loop-i.folio c.put_session_slot.new.folio (length c.args.sessions.now) (frames_of c.args.files.now) lists c.args.sessions.now c.loop-i.i
      c.first_number-first.result c.loop-i.at c.index-sessions-i.result c.loop-i-test.true c.index-sessions-i.is c.loop-i.invariant.files (first_is c) (c.loop-i.invariant.long lists)
      c.put_session_slot.ensures.len;
  files = omega (arith, files_more c.args.sessions.now c.loop-i.i c.index-sessions-i.result c.loop-i-test.true c.index-sessions-i.is, c.loop-i.invariant.files, c.file_frames-count.ensures.value);
  few = omega (arith, c.loop-i.invariant.few, c.file_frames-count.ensures.few);
}

pub returns : goal.returns
returns c lists =
    session_done c.args.folio.now c.loop-i.folio (length c.args.sessions.now) (frames_of c.args.files.now) lists c.args.sessions.now c.loop-i.i refl (omega (arith, c.loop-i-test.false))
    (c.loop-i.invariant.front lists)
