use Rattle.luo_calls.proofs.Sticking.{sticks_any}
use Rattle.std.specs.Prelude.{None}
use Rattle.std.proofs.Common.{[], sym, ap, subst}
use Rattle.ho_base.specs.Objects.{session_no}
use Rattle.ho_world.specs.Logs.{AreClaimed}
use Rattle.machine_core.specs.Agents.{Agent, begun}
use Rattle.luo_calls.specs.declared.stuck.Stuck.{Stuck}
use Rattle.luo_calls.specs.Opened.{without}
use Rattle.luo_calls.specs.Stuck.{Sticks}
use Rattle.luo_calls.proofs.KindTurns as kinds
use Rattle.luo_calls.proofs.Nested as nested
use Rattle.luo_incoming.proofs.turns.session.finish_session.Goals as goal

pub under-requires : goal.under-requires
under-requires g c =
    nested.let_go_at _ (session_no c.args.slot.0) _ _ _ c.of_session-number.ensures c.resume.ensures.kept c.requires.holds

pub returns-in-Err-clause-sticks : goal.returns-in-Err-clause-sticks
returns-in-Err-clause-sticks g c =
    sticks_any _ _ _ _ _ (subst (λ (s : Stuck). Sticks c.args.at.now None s (without (session_no c.args.slot.0) (g.R.Reach.shown c.args.reach.now)) (g.R.Reach.shown c.under.new.reach)) (sym c.under.ensures.stuck)
    (nested.under_at _ c.args.at.now _ _ (session_no c.args.slot.0) _ _ _ _ c.of_session-number.ensures c.in-Err.ensures.sticks c.requires.holds c.under.ensures.ended))

pub returns-in-Err-reserve-clause-sticks : goal.returns-in-Err-reserve-clause-sticks
returns-in-Err-reserve-clause-sticks g c =
    let r = c.in-Err-reserve.ensures in
    nested.sticks_held c.args.at.now _ _ (session_no c.args.slot.0) _ _ _ c.of_session-number.ensures
    (nested.holds_same _ _ _ _ (nested.session_more c.args.held c.reserve.new.self r.number r.start r.history) c.requires.holds) c.resume.ensures.kept tt

pub end-requires : goal.end-requires
end-requires g c =
    let r = c.in_default.ensures in let t = c.finish-entry.ensures in
    let opens = nested.reopens c.args.at.now (session_no c.args.slot.0) _ _ _ (nested.holds_same _ _ _ _ (nested.session_more c.args.held c.reserve.new.self r.number r.start r.history) c.requires.holds) c.resume.ensures.kept c.in-Ok.ensures.early r.entries c.in-Ok.ensures.room in
    kinds.session_can_at _ _ _ _ _ _ [] _ _ _ opens (nested.free_without (session_no c.args.slot.0) (g.R.Reach.shown c.args.reach.now)) _ c.in-Ok.ensures.at t.told _ c.of_session-number.ensures (nested.ready_without (session_no c.args.slot.0) c.args.at.now (g.R.Reach.shown c.args.reach.now) c.requires.ready) t.kept t.number t.start t.run

pub returns-clause-goes : goal.returns-clause-goes
returns-clause-goes g c claims known =
    let r = c.in_default.ensures in
    let opens = nested.reopens c.args.at.now (session_no c.args.slot.0) _ _ _ (nested.holds_same _ _ _ _ (nested.session_more c.args.held c.reserve.new.self r.number r.start r.history) c.requires.holds) c.resume.ensures.kept c.in-Ok.ensures.early r.entries c.in-Ok.ensures.room in
    kinds.session_turned_at _ _ _ _ _ c.finish-entry.new.self claims _ _ _ opens (nested.free_without (session_no c.args.slot.0) (g.R.Reach.shown c.args.reach.now)) _ c.in-Ok.ensures.at c.finish-entry.ensures.told _ c.of_session-number.ensures _ (subst (λ f. AreClaimed (begun (g.R.Reach.shown c.args.reach.now)) f claims) (sym (ap (λ (x : Agent). x.hands) c.resume.ensures.kept)) known) c.end.ensures
