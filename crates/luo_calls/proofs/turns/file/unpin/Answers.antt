use Rattle.std.proofs.Common.{[], ◌∷◌}
use Rattle.ho_base.specs.Objects.{file_no}
use Rattle.ho_base.specs.declared.numbers.Kind.TheVariants.{Memfd}
use Rattle.ho_world.specs.Acts.{IsFile}
use Rattle.luo_calls.proofs.FileHalts.{memfd_claimed}
use Rattle.luo_calls.proofs.FileReplies.{given_says}
use Rattle.luo_calls.proofs.KindTurns as kinds
use Rattle.luo_calls.proofs.Nested as nested
use Rattle.luo_calls.proofs.Steps.{has}
use Rattle.luo_calls.proofs.turns.file.unpin.Goals as goal

pub returns-in-Err-clause-sticks : goal.returns-in-Err-clause-sticks
returns-in-Err-clause-sticks g c =
    nested.stuck_back _ c.args.at.now _ _ _ (file_no c.args.file.0) (g.R.Reach.shown c.args.reach.now) (g.R.Reach.shown c.open_pinned.new.reach) _ _ _ c.of_file-number.ensures c.under.ensures.stuck c.in_ok-object.ensures.opens c.requires.free c.in-Err.ensures.sticks c.under.ensures.ended

pub end-requires : goal.end-requires
end-requires g c =
    let t = c.unpin-entry.ensures in
    let opens = nested.opens_room c.args.at.now (file_no c.args.file.0) (g.R.Reach.shown c.args.reach.now) (g.R.Reach.shown c.open_pinned.new.reach) (g.R.Reach.shown c.resume_giving.new.reach) _ c.in_ok-object.ensures.opens c.in-Ok.ensures.kept c.in-Ok.ensures.room in
    kinds.file_can_at _ _ _ _ _ _ [] _ _ _ opens c.requires.free _ c.in-Ok.ensures.at t.told _ c.of_file-number.ensures c.requires.ready t.kept t.number t.start t.home t.run

pub returns-clause-given : goal.returns-clause-given
returns-clause-given g c =
    given_says _ _ _ _ _ _ _ c.in_ok-object.ensures.opens.found.machine c.in-Ok.ensures.empty c.in_ok-object.ensures.memfd c.unpin-entry.ensures.exact c.unpin-entry.ensures.given

pub returns-clause-goes : goal.returns-clause-goes
returns-clause-goes g c =
    let opens = nested.opens_room c.args.at.now (file_no c.args.file.0) (g.R.Reach.shown c.args.reach.now) (g.R.Reach.shown c.open_pinned.new.reach) (g.R.Reach.shown c.resume_giving.new.reach) _ c.in_ok-object.ensures.opens c.in-Ok.ensures.kept c.in-Ok.ensures.room in
    kinds.file_turned_at _ _ _ _ _ c.unpin-entry.new.self (IsFile c.args.file Memfd c.in_ok-object.order ∷ []) _ _ _ opens c.requires.free _ c.in-Ok.ensures.at c.unpin-entry.ensures.told _ c.of_file-number.ensures _
    ((memfd_claimed (g.R.Reach.shown c.args.reach.now) (g.R.Reach.shown c.resume_giving.new.reach).hands c.args.file c.in_ok-object.object c.in_ok-object.order (has _ _ _ _ _ opens) c.in_ok-object.ensures.memfd)) c.end.ensures
