use Rattle.luo_incoming.proofs.Finishes.{finished_more, finished_none, loop_sticks}
use Rattle.std.proofs.lemmas.Result.{err_from_is_err_and}
use Rattle.luo_calls.proofs.Chains.{ready_after}
use Rattle.luo_incoming.proofs.commands.finish_files.finish_files.Goals as goal

pub loop-kept-init : goal.loop-kept-init
loop-kept-init g c = finished_none _ _

pub finish_file-requires-clause-ready : goal.finish_file-requires-clause-ready
finish_file-requires-clause-ready g c = ready_after _ _ _ _ _ c.requires.ready c.loop-kept.invariant.goes

pub returns-in_err-finish_file-clause-stopped : goal.returns-in_err-finish_file-clause-stopped
returns-in_err-finish_file-clause-stopped g c =
    let p = err_from_is_err_and c.from_residual.result c.from_residual.ensures.1 in rw (p.1, p.2)
    (loop_sticks c.args.files.now c.loop-kept.kept-index _ _ _ _ _ _ _ _ c.loop-kept-test.true c.loop-kept.invariant c.in_err-finish_file.ensures.stopped)

pub loop-kept-preserved : goal.loop-kept-preserved
loop-kept-preserved g c =
    finished_more c.args.files.now c.loop-kept.kept-index _ _ _ _ _ _ _ c.loop-kept-test.true c.loop-kept.invariant c.in_ok-finish_file.ensures.finished
