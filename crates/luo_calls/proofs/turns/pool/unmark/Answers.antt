use Rattle.luo_calls.proofs.Sticking.{sticks_any}
use Rattle.std.proofs.lemmas.Result.{err_from_is_err_and}
use Rattle.std.proofs.Common.{[]}
use Rattle.ho_events.specs.declared.event.Event.TheVariants.{PoolUnmark}
use Rattle.luo_calls.proofs.Cannot.{pool_cannot}
use Rattle.luo_calls.proofs.KindTurns as kinds
use Rattle.luo_calls.proofs.PoolHalts.{broken_pool_sticks, cannot_unmark}
use Rattle.luo_calls.proofs.turns.pool.unmark.Goals as goal

pub returns-then-not-can_unmark-clause-sticks : goal.returns-then-not-can_unmark-clause-sticks
returns-then-not-can_unmark-clause-sticks g c =
    broken_pool_sticks _ _ _ c.in_ok-slip.pool _ c.requires.free c.in_ok-slip.ensures.opens (PoolUnmark c.args.order c.args.runs.now)
    (pool_cannot c.in_ok-slip.pool (PoolUnmark c.args.order c.args.runs.now) (cannot_unmark _ c.args.order c.args.runs.now _ c.if-not-can_unmark.true c.can_unmark.ensures.exact) c.args.at.now _)
    c.broken_pool.ensures.halt c.broken_pool.ensures.held

pub end-requires : goal.end-requires
end-requires g c =
    let t = c.unmark-entry.ensures in
    kinds.pool_can _ _ _ _ _ [] _ _ _ c.in_ok-slip.ensures.opens c.requires.free _ c.in_ok-slip.ensures.at t.told c.requires.ready t.kept t.start t.home t.shape t.run

pub returns-clause-goes : goal.returns-clause-goes
returns-clause-goes g c =
    kinds.pool_turned _ _ _ _ c.unmark-entry.new.self [] _ _ _ c.in_ok-slip.ensures.opens c.requires.free _ c.in_ok-slip.ensures.at c.unmark-entry.ensures.told _ tt c.end.ensures

pub returns-in_err-slip-clause-sticks : goal.returns-in_err-slip-clause-sticks
returns-in_err-slip-clause-sticks g c =
    let p = err_from_is_err_and c.from_residual.result c.from_residual.ensures.1 in rw (p.1, p.2) (sticks_any _ _ _ _ _ c.in_err-slip.ensures.sticks)
