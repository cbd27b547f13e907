use Rattle.std.proofs.Common.{arith}
use Rattle.luo_calls.proofs.Opens as opens
use Rattle.luo_calls.proofs.Sticking as sticking
use Rattle.luo_calls.proofs.turns.open.begin_turn.Goals as goal

pub returns-in-Err-reserve-clause-sticks : goal.returns-in-Err-reserve-clause-sticks
returns-in-Err-reserve-clause-sticks g c =
    let r = c.in-Err-reserve.ensures in
    sticking.sticks_at _ _ _ _ (g.R.Reach.shown c.args.reach.now) (g.R.Reach.shown c.room.new.self) _ _ _ c.requires.free c.room.ensures.kept c.begin-state.ensures.taken c.begin-state.ensures.found
    (record { start = r.start; history = r.history; kind = r.kind; number = r.number; machine = r.machine }) tt

pub returns-clause-opens : goal.returns-clause-opens
returns-clause-opens g c =
    let r = c.in_default-reserve.ensures in
    opens.opened c.args.at _ (g.R.Reach.shown c.args.reach.now) (g.R.Reach.shown c.room.new.self) _ _ _ c.room.ensures.kept c.begin-state.ensures.taken c.begin-state.ensures.found (record { start = r.start; history = r.history; kind = r.kind; number = r.number; machine = r.machine })
    (omega (arith, c.if-at-ge-LATE.false)) (omega (arith, c.if-last-ge-LATE.false, c.last_stamp-last.ensures)) r.room c.in_default.ensures.room
