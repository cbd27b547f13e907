use Rattle.std.proofs.Common.{arith}
use Rattle.session_core.proofs.TakenFiles.{before_step, before_stop, before_end}
use Rattle.session_core.proofs.incoming.place_in.Goals as goal

pub loop-i-preserved : goal.loop-i-preserved
loop-i-preserved c =
    let next = before_step _ _ _ _ c.loop-i-test.true c.if-files-i.true in
    (omega arith, omega (arith, next))

pub returns-else-files-i-clause-place : goal.returns-else-files-i-clause-place
returns-else-files-i-clause-place c =
    let next = before_stop _ _ _ _ c.loop-i-test.true c.if-files-i.false in
    omega (arith, next)

pub returns-after-loop-i-clause-place : goal.returns-after-loop-i-clause-place
returns-after-loop-i-clause-place c =
    let next = before_end c.args.token.0 _ _ c.loop-i-test.false in
    omega (arith, next)
