use Rattle.std.proofs.lemmas.Result.{err_from_is_err_and}
use Rattle.std.proofs.Common.{[], ◌∷◌, inl}
use Rattle.ho_base.specs.declared.numbers.Kind.TheVariants.{Memfd}
use Rattle.ho_events.specs.declared.event.Event.TheVariants.{FileOpenHeld}
use Rattle.ho_world.specs.Acts.{IsFile}
use Rattle.luo_calls.proofs.Cannot.{file_cannot}
use Rattle.luo_calls.proofs.FileHalts.{broken_file_sticks, memfd_claimed}
use Rattle.luo_calls.proofs.KindTurns as kinds
use Rattle.luo_calls.proofs.Steps.{has}
use Rattle.luo_calls.proofs.Sticking.{sticks_any}
use Rattle.luo_incoming.proofs.Files.{cannot_open_held, waits}
use Rattle.luo_incoming.proofs.turns.file.open_held.Goals as goal

pub returns-then-not-is_unopened-clause-sticks : goal.returns-then-not-is_unopened-clause-sticks
returns-then-not-is_unopened-clause-sticks g c =
    broken_file_sticks _ _ _ _ _ c.in_ok-slip.object FileOpenHeld _ c.of_file-number.ensures c.requires.free c.in_ok-slip.ensures.opens
    (inl (file_cannot c.in_ok-slip.object FileOpenHeld (cannot_open_held _ _ _ c.if-not-is_unopened.true c.is_unopened.ensures c.facts.ensures.exact) c.args.at.now _))
    c.broken_file.ensures.halt c.broken_file.ensures.held

pub open_held-entry-requires-clause-held : goal.open_held-entry-requires-clause-held
open_held-entry-requires-clause-held g c = waits _ _ _ c.if-not-is_unopened.false c.is_unopened.ensures c.facts.ensures.exact

pub end-requires : goal.end-requires
end-requires g c =
    let t = c.open_held-entry.ensures in
    kinds.file_can_at _ _ _ _ _ _ [] _ _ _ c.in_ok-slip.ensures.opens c.requires.free _ c.in_ok-slip.ensures.at t.told _ c.of_file-number.ensures c.requires.ready t.kept t.number t.start t.home t.run

pub returns-clause-goes : goal.returns-clause-goes
returns-clause-goes g c =
    kinds.file_turned_at _ _ _ _ _ c.open_held-entry.new.self (IsFile c.args.file Memfd c.order_of-order.result ∷ []) _ _ _ c.in_ok-slip.ensures.opens c.requires.free _ c.in_ok-slip.ensures.at c.open_held-entry.ensures.told _ c.of_file-number.ensures _
    (memfd_claimed (g.R.Reach.shown c.args.reach.now) (g.R.Reach.shown c.open_file.new.reach).hands c.args.file c.in_ok-slip.object c.order_of-order.result (has _ _ _ _ _ c.in_ok-slip.ensures.opens)
    c.order_of-order.ensures) c.end.ensures

pub returns-in_err-slip-clause-sticks : goal.returns-in_err-slip-clause-sticks
returns-in_err-slip-clause-sticks g c =
    let p = err_from_is_err_and c.from_residual.result c.from_residual.ensures.1 in rw (p.1, p.2) (sticks_any _ _ _ _ _ c.in_err-slip.ensures.sticks)
