use Rattle.std.proofs.Common.{[]}
use Rattle.luo_calls.specs.Takes.{TookWith}
use Rattle.luo_calls.proofs.PoolHalts.{claimed_open}
use Rattle.luo_calls.proofs.Taken.{took_some, took_none, no_frames}
use Rattle.luo_calls.proofs.KindTurns as kinds
use Rattle.freeze_path.proofs.taking.take.Goals as goal
use Rattle.freeze_path.proofs.taking.take.Goals.{in-Got, in_default}

pub end-requires : goal.end-requires
end-requires g c =
    let t = c.take-entry.ensures in
    kinds.pool_can _ _ _ _ _ [] _ _ _ c.in_ok-slip.ensures.opens c.requires.free _ c.in_ok-slip.ensures.at t.told c.requires.ready t.kept t.start t.home t.shape t.run

pub returns-clause-got : goal.returns-clause-got
returns-clause-got g c =
    let turned : TookWith (record { 0 = 0 }) c.args.count c.args.at.now _ (g.R.Reach.shown c.args.reach.now) (g.R.Reach.shown c.end.new.self) c.take-entry.result.entry.reply =
    λ claims known. kinds.pool_turned _ _ _ _ c.take-entry.new.self claims _ _ _ c.in_ok-slip.ensures.opens c.requires.free _ c.in_ok-slip.ensures.at c.take-entry.ensures.told _
    (claimed_open _ _ _ _ _ claims c.in_ok-slip.ensures.opens c.requires.free known) c.end.ensures in
    elim c.match-entry.branch [
      | in-Got w ↦ took_some _ _ _ _ _ _ _ _ _ _ w.got-is w.of.ensures w.in-Got.is turned
      | in_default w ↦ took_none _ _ _ _ _ _ _ _ w.got-is (no_frames _ _ c.take-entry.ensures.reply w.in_default.not-Got) turned
    ]
