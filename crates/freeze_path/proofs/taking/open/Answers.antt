use Rattle.std.proofs.Common.{sym, arith, subst, ◌+◌, ◌^◌, ◌<◌, ◌≤◌}
use Rattle.ho_base.specs.Objects.{pool_no}
use Rattle.ho_events.specs.History.{last_stamp}
use Rattle.machine_core.specs.Objects.{history_of, room_of}
use Rattle.luo_calls.proofs.Opens as opens
use Rattle.luo_calls.proofs.Opens.{SameButRoom}
use Rattle.freeze_path.proofs.TakeSteps.{only_room, given_back, pool_early}
use Rattle.freeze_path.proofs.taking.open.Goals as goal

pub returns-in-Err-clause-none : goal.returns-in-Err-clause-none
returns-in-Err-clause-none g c = only_room c.args.at (g.R.Reach.shown c.args.reach.now) (g.R.Reach.shown c.room.new.self) c.room.ensures.kept

pub returns-in-Err-make-clause-none : goal.returns-in-Err-make-clause-none
returns-in-Err-make-clause-none g c = only_room c.args.at (g.R.Reach.shown c.args.reach.now) (g.R.Reach.shown c.room.new.self) c.room.ensures.kept

pub end-requires : goal.end-requires
end-requires g c =
    let r = c.in-Err-reserve.ensures in
    opens.can_give_more c.args.at pool_no (g.R.Reach.shown c.args.reach.now) (g.R.Reach.shown c.room.new.self) (g.R.Reach.shown c.begin-state.new.self) _ _ c.room.ensures.kept c.begin-state.ensures.taken c.begin-state.ensures.found
    (record { start = r.start; history = r.history; kind = r.kind; number = r.number; machine = r.machine })

pub returns-in-Err-reserve-clause-none : goal.returns-in-Err-reserve-clause-none
returns-in-Err-reserve-clause-none g c =
    given_back c.args.at pool_no (g.R.Reach.shown c.args.reach.now) (g.R.Reach.shown c.room.new.self) (g.R.Reach.shown c.begin-state.new.self) _ c.begin-state.result c.room.ensures.kept c.begin-state.ensures.taken c.requires.free c.end.ensures

pub returns-clause-opens : goal.returns-clause-opens
returns-clause-opens g c =
    let r = c.in_default-reserve.ensures in
    let two = c.in_default.ensures.room in
    opens.opened c.args.at pool_no (g.R.Reach.shown c.args.reach.now) (g.R.Reach.shown c.room.new.self) (g.R.Reach.shown c.begin-state.new.self) c.begin-state.result _ c.room.ensures.kept c.begin-state.ensures.taken c.begin-state.ensures.found
    (subst (SameButRoom c.begin-state.result) c.in-Pool.is (record { start = r.start; history = r.history; kind = r.kind; number = r.number; machine = r.machine }))
    (omega (arith, c.requires.early)) (omega (arith, pool_early (g.R.Reach.shown c.args.reach.now) (g.R.Reach.shown c.room.new.self) c.begin-state.result c.room.ensures.kept c.begin-state.ensures.found c.requires.told)) (subst (λ o. 1 ≤ room_of o) c.in-Pool.is r.room) (omega (arith, two))

pub returns-clause-last : goal.returns-clause-last
returns-clause-last g c =
    subst (λ o. last_stamp (history_of o) + 1 < 2 ^ 63) c.in-Pool.is
    (subst (λ h. last_stamp h + 1 < 2 ^ 63) (sym c.in_default-reserve.ensures.history)
    (pool_early (g.R.Reach.shown c.args.reach.now) (g.R.Reach.shown c.room.new.self) c.begin-state.result c.room.ensures.kept c.begin-state.ensures.found c.requires.told))
