use Rattle.luo_calls.proofs.Sticking.{sticks_any, sticks_number}
use Rattle.std.proofs.lemmas.Result.{err_from_is_err_and}
use Rattle.std.proofs.Common.{refl, [], inl, sym}
use Rattle.ho_base.specs.Objects.{session_no}
use Rattle.ho_events.specs.declared.event.Event.TheVariants.{SessionOpen}
use Rattle.luo_calls.proofs.Cannot.{session_cannot}
use Rattle.luo_calls.proofs.KindTurns as kinds
use Rattle.luo_incoming.proofs.Slots.{cannot_open}
use Rattle.luo_incoming.proofs.turns.session.open_session.Goals as goal

pub returns-then-not-waits-clause-sticks : goal.returns-then-not-waits-clause-sticks
returns-then-not-waits-clause-sticks g c =
    sticks_number _ _ _ _ (session_no c.args.slot.0) _ _ _ c.of_session-number.ensures c.requires.free c.in_ok-slip.ensures.opens
    (refl, (sym c.of_session-number.ensures, inl (session_cannot c.in_ok-slip.session (SessionOpen c.args.name) (cannot_open _ c.args.name _ c.if-not-waits.true c.waits.ensures) c.args.at.now _)))

pub end-requires : goal.end-requires
end-requires g c =
    let t = c.open-entry.ensures in
    kinds.session_can_at _ _ _ _ _ _ [] _ _ _ c.in_ok-slip.ensures.opens c.requires.free _ c.in_ok-slip.ensures.at t.told _ c.of_session-number.ensures c.requires.ready t.kept t.number t.start t.run

pub returns-clause-goes : goal.returns-clause-goes
returns-clause-goes g c =
    kinds.session_turned_at _ _ _ _ _ c.open-entry.new.self [] _ _ _ c.in_ok-slip.ensures.opens c.requires.free _ c.in_ok-slip.ensures.at c.open-entry.ensures.told _ c.of_session-number.ensures _ tt c.end.ensures

pub returns-in_err-slip-clause-sticks : goal.returns-in_err-slip-clause-sticks
returns-in_err-slip-clause-sticks g c =
    let p = err_from_is_err_and c.from_residual.result c.from_residual.ensures.1 in rw (p.1, p.2) (sticks_any _ _ _ _ _ c.in_err-slip.ensures.sticks)
