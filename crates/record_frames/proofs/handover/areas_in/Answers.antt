use Rattle.std.proofs.Common.{◌+◌, ◌<◌, arith}
use Rattle.ho_base.specs.declared.limits.TheConstants.{MAX_FRAMES}
use Rattle.record_frames.proofs.AreaSteps.{areas_more, areas_large}
use Rattle.record_frames.proofs.handover.areas_in.Goals as goal
use Rattle.record_frames.proofs.handover.areas_in.Goals.{then-first-from-via-then-first-from, then-first-from-via-else-first-from+then-frames-from}

pub returns-then-first-from : goal.returns-then-first-from
returns-then-first-from c =
    let large : MAX_FRAMES < c.number_at-first.result + c.number_at-frames.result =
    elim c.then-first-from.branch [
      | then-first-from-via-then-first-from w ↦ omega (arith, w.if-first-from.true, c.from.ensures)
      | then-first-from-via-else-first-from+then-frames-from w ↦ omega (arith, w.if-frames-from.true, w.from-else-first-from.ensures)
    ] in
    areas_large c.args.count c.loop-i.i c.number_at-first.result c.number_at-frames.result c.args.bytes.now c.loop-i.areas.items c.loop-i.invariant c.loop-i-test.true
    c.number_at-first.ensures c.number_at-frames.ensures large

pub loop-i-preserved : goal.loop-i-preserved
loop-i-preserved c =
    areas_more c.args.count c.loop-i.i c.number_at-first.result c.number_at-frames.result c.args.bytes.now c.loop-i.areas.items c.push.new.self.items c.loop-i.invariant c.loop-i-test.true
    c.number_at-first.ensures c.number_at-frames.ensures c.in_ok-push.ensures.items
