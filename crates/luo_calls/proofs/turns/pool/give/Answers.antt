use Rattle.luo_calls.proofs.Sticking.{sticks_any}
use Rattle.std.proofs.lemmas.Result.{err_from_is_err_and}
use Rattle.std.proofs.Common.{List, [], subst, sym}
use Rattle.ho_base.specs.Objects.{pool_no}
use Rattle.phys_frames.specs.Memory.{AreOf, FolioValue, first_frames}
use Rattle.luo_calls.specs.Stuck.{Sticks, turn}
use Rattle.ho_events.specs.declared.event.Event.TheVariants.{PoolGive}
use Rattle.luo_calls.proofs.Cannot.{pool_cannot}
use Rattle.luo_calls.proofs.KindTurns as kinds
use Rattle.luo_calls.proofs.Folios.{all_of}
use Rattle.luo_calls.proofs.PoolHalts.{broken_pool_sticks, cannot_give}
use Rattle.luo_calls.proofs.turns.pool.give.Goals as goal

pub returns-then-not-can_give-clause-sticks : goal.returns-then-not-can_give-clause-sticks
returns-then-not-can_give-clause-sticks g c =
    subst (λ (folios : List FolioValue). Sticks c.args.at.now (turn pool_no (PoolGive c.args.order (first_frames folios))) c.broken_pool.result (g.R.Reach.shown c.args.reach.now) (g.R.Reach.shown c.open_pool.new.reach))
    c.as_slice.ensures.value
    (broken_pool_sticks _ _ _ c.in_ok-slip.pool _ c.requires.free c.in_ok-slip.ensures.opens (PoolGive c.args.order (first_frames c.as_slice.result.now))
    (pool_cannot c.in_ok-slip.pool (PoolGive c.args.order (first_frames c.as_slice.result.now)) (cannot_give _ c.args.order (first_frames c.as_slice.result.now) _ c.if-not-can_give.true c.can_give.ensures.exact) c.args.at.now _)
    c.broken_pool.ensures.halt c.broken_pool.ensures.held)

pub end-requires : goal.end-requires
end-requires g c =
    let t = c.give-entry.ensures in
    kinds.pool_can _ _ _ _ _ [] _ _ _ c.in_ok-slip.ensures.opens c.requires.free _ c.in_ok-slip.ensures.at t.told c.requires.ready t.kept t.start t.home t.shape t.run

pub returns-clause-goes : goal.returns-clause-goes
returns-clause-goes g c =
    kinds.pool_turned _ _ _ _ c.give-entry.new.self [] _ _ _ c.in_ok-slip.ensures.opens c.requires.free _ c.in_ok-slip.ensures.at c.give-entry.ensures.told _ tt c.end.ensures

pub give-entry-requires-clause-of_home : goal.give-entry-requires-clause-of_home
give-entry-requires-clause-of_home g c =
    all_of _ _ (subst (λ h. AreOf h c.args.folios.now.items) (sym c.in_ok-slip.ensures.opens.found.machine.1) c.requires.of_home)

pub returns-in_err-slip-clause-sticks : goal.returns-in_err-slip-clause-sticks
returns-in_err-slip-clause-sticks g c =
    let p = err_from_is_err_and c.from_residual.result c.from_residual.ensures.1 in rw (p.1, p.2) (sticks_any _ _ _ _ _ c.in_err-slip.ensures.sticks)
