use Rattle.std.proofs.Common.{◌≤◌, length, ap, arith}
use Rattle.std.specs.List.{sum_by}
use Rattle.std.proofs.lemmas.List.{take_all}
use Rattle.record_frames.specs.State.{session_frames}
use Rattle.record_frames.proofs.Needs.{needed}
use Rattle.record_frames.proofs.carried.need.Goals as goal

pub returns : goal.returns
returns c = λ ram.
    let sessions = c.args.carried.now.sessions in
    let long : length sessions ≤ c.loop-session.session-index = omega (arith, c.loop-session-test.false, ap length c.as_slice-session-items.ensures) in
    let all = ap (sum_by session_frames) (take_all c.loop-session.session-index sessions long) in
    omega (arith, needed ram c.args.carried.now, all, c.loop-session.invariant.so_far, c.chunk_frames.ensures.value)
