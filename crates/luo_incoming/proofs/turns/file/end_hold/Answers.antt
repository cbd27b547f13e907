use Rattle.std.proofs.Common.{[], ◌∷◌, ap, ◌∙◌}
use Rattle.ho_base.specs.Objects.{file_no}
use Rattle.ho_base.specs.declared.numbers.Kind.TheVariants.{Memfd}
use Rattle.ho_world.specs.Acts.{IsFile}
use Rattle.machine_core.specs.Agents.{Agent}
use Rattle.luo_calls.specs.Opened.{without}
use Rattle.luo_calls.proofs.FileHalts.{memfd_claimed}
use Rattle.luo_calls.proofs.KindTurns as kinds
use Rattle.luo_calls.proofs.Nested.{free_without, ready_without, reopens}
use Rattle.luo_incoming.proofs.Files.{finished_says}
use Rattle.luo_incoming.proofs.turns.file.end_hold.Goals as goal

pub end-requires : goal.end-requires
end-requires g c =
    let t = c.finish-entry.ensures in let a = g.R.Reach.shown c.args.reach.now in let n = file_no c.args.file.0 in
    kinds.file_can_at _ _ _ _ _ _ [] _ _ _
    (reopens c.args.at.now n a (g.R.Reach.shown c.resume.new.reach) _ c.requires.holds c.in-Ok.ensures.kept c.in-Ok.ensures.early c.requires.object_room c.in-Ok.ensures.room)
    (free_without n a) _ c.in-Ok.ensures.at t.told _ c.of_file-number.ensures (ready_without n c.args.at.now a c.requires.ready) t.kept t.number t.start t.home t.run

pub returns-clause-given : goal.returns-clause-given
returns-clause-given g c =
    finished_says _ _ _ _ _ _ _ c.requires.holds.found.machine (c.reserve.ensures.items ∙ c.requires.empty) c.order_of-order.ensures c.finish-entry.ensures.exact c.finish-entry.ensures.given

pub returns-clause-goes : goal.returns-clause-goes
returns-clause-goes g c =
    let a = g.R.Reach.shown c.args.reach.now in let a1 = g.R.Reach.shown c.resume.new.reach in let n = file_no c.args.file.0 in
    kinds.file_turned_at _ _ _ _ _ c.finish-entry.new.self (IsFile c.args.file Memfd c.order_of-order.result ∷ []) _ _ _
    (reopens c.args.at.now n a a1 _ c.requires.holds c.in-Ok.ensures.kept c.in-Ok.ensures.early c.requires.object_room c.in-Ok.ensures.room)
    (free_without n a) _ c.in-Ok.ensures.at c.finish-entry.ensures.told _ c.of_file-number.ensures _
    (memfd_claimed (without n a) a1.hands c.args.file c.args.object c.order_of-order.result (ap (λ (x : Agent). x.hands n) {y = record a { room = a1.room }} c.in-Ok.ensures.kept ∙ c.requires.holds.held) c.order_of-order.ensures)
    c.end.ensures
