use Rattle.std.proofs.Common.{refl, []}
use Rattle.ho_base.specs.Objects.{file_no}
use Rattle.luo_calls.proofs.KindTurns as kinds
use Rattle.luo_calls.proofs.Nested as nested
use Rattle.luo_calls.proofs.PinTurns.{answered}
use Rattle.luo_calls.proofs.turns.pin.end_pin.Goals as goal

pub end-requires : goal.end-requires
end-requires g c =
    let t = c.pin-entry.ensures in let a = g.R.Reach.shown c.args.reach.now in let n = file_no c.args.file.0 in
    kinds.file_can_at _ _ _ _ _ _ [] _ _ _ (nested.reopens c.args.at.now n a a _ c.requires.holds refl c.requires.early c.requires.object_room c.requires.log_room)
    (nested.free_without n a) _ c.requires.slip t.told _ c.of_file-number.ensures (nested.ready_without n c.args.at.now a c.requires.ready) t.kept t.number t.start t.home t.run

pub returns-clause-exact : goal.returns-clause-exact
returns-clause-exact g c = answered _ _ _ _ c.pin-entry.ensures.exact

pub returns-clause-goes : goal.returns-clause-goes
returns-clause-goes g c claims known =
    let a = g.R.Reach.shown c.args.reach.now in let n = file_no c.args.file.0 in
    kinds.file_turned_at _ _ _ _ _ c.pin-entry.new.self claims _ _ _ (nested.reopens c.args.at.now n a a _ c.requires.holds refl c.requires.early c.requires.object_room c.requires.log_room)
    (nested.free_without n a) _ c.requires.slip c.pin-entry.ensures.told _ c.of_file-number.ensures _ known c.end.ensures
