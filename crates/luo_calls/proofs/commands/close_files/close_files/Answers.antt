use Rattle.luo_calls.proofs.ClosedParts.{loop_sticks, closed_more, closed_none}
use Rattle.std.proofs.lemmas.Result.{err_from_is_err_and}
use Rattle.luo_calls.proofs.Chains.{ready_after}
use Rattle.luo_calls.proofs.commands.close_files.close_files.Goals as goal

pub loop-kept-init : goal.loop-kept-init
loop-kept-init g c = closed_none _ _

pub close_file-requires-clause-ready : goal.close_file-requires-clause-ready
close_file-requires-clause-ready g c = ready_after _ _ _ _ _ c.requires.ready c.loop-kept.invariant.goes

pub returns-in_err-close_file-clause-stopped : goal.returns-in_err-close_file-clause-stopped
returns-in_err-close_file-clause-stopped g c =
    let p = err_from_is_err_and c.from_residual.result c.from_residual.ensures.1 in rw (p.1, p.2)
    (loop_sticks c.args.files.now c.loop-kept.kept-index _ _ _ _ _ _ _ _ c.loop-kept-test.true c.loop-kept.invariant c.in_err-close_file.ensures.stopped)

pub loop-kept-preserved : goal.loop-kept-preserved
loop-kept-preserved g c =
    closed_more c.args.files.now c.loop-kept.kept-index _ _ _ _ _ _ _ c.loop-kept-test.true c.loop-kept.invariant c.in_ok-close_file.ensures.closed
