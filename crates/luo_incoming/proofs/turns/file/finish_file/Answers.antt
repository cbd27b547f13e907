use Rattle.std.proofs.Common.{inl}
use Rattle.std.proofs.lemmas.Result.{err_from_is_err_and}
use Rattle.ho_events.specs.declared.event.Event.TheVariants.{FileFinish}
use Rattle.luo_calls.proofs.Cannot.{file_cannot}
use Rattle.luo_calls.proofs.FileHalts.{broken_file_sticks}
use Rattle.luo_calls.proofs.Sticking.{sticks_any}
use Rattle.luo_incoming.proofs.Files.{cannot_finish, holds, outer_goes_if, outer_sticks_if}
use Rattle.luo_incoming.proofs.turns.file.finish_file.Goals as goal

pub returns-then-not-has_session-clause-sticks : goal.returns-then-not-has_session-clause-sticks
returns-then-not-has_session-clause-sticks g c =
    broken_file_sticks _ _ _ _ _ c.in_ok-object.object FileFinish _ c.of_file.ensures c.requires.free c.in_ok-object.ensures.opens
    (inl (file_cannot c.in_ok-object.object FileFinish (cannot_finish _ _ _ c.if-not-has_session.true c.has_session.ensures c.facts.ensures.exact) c.args.at.now _))
    c.broken_file.ensures.halt c.broken_file.ensures.held

pub returns-in_err-object-clause-sticks : goal.returns-in_err-object-clause-sticks
returns-in_err-object-clause-sticks g c =
    let p = err_from_is_err_and c.from_residual.result c.from_residual.ensures.1 in rw (p.1, p.2) (sticks_any _ _ _ _ _ c.in_err-object.ensures.sticks)

pub returns-clause-goes : goal.returns-clause-goes
returns-clause-goes g c =
    outer_goes_if c.args.file _ _ _ _ _ _ c.in_ok-object.ensures.opens c.requires.free c.end_hold.result c.end_hold.ensures.goes

pub returns-clause-sticks : goal.returns-clause-sticks
returns-clause-sticks g c =
    outer_sticks_if _ _ _ _ _ _ c.in_ok-object.ensures.opens c.requires.free _ c.end_hold.result c.end_hold.ensures.sticks
