use Rattle.luo_calls.proofs.Sticking.{sticks_any}
use Rattle.std.proofs.lemmas.Result.{err_from_is_err_and}
use Rattle.std.proofs.Common.{refl, [], inl}
use Rattle.ho_base.specs.declared.numbers.Kind.TheVariants.{Memfd}
use Rattle.ho_events.specs.declared.event.Event.TheVariants.{FileInit}
use Rattle.luo_calls.proofs.Cannot.{file_cannot}
use Rattle.luo_calls.proofs.FileHalts.{broken_file_sticks, cannot_init}
use Rattle.luo_calls.proofs.KindTurns as kinds
use Rattle.luo_calls.proofs.turns.file.init.Goals as goal

pub returns-then-is_present-clause-sticks : goal.returns-then-is_present-clause-sticks
returns-then-is_present-clause-sticks g c =
    broken_file_sticks _ _ _ _ _ c.in_ok-slip.object (FileInit Memfd c.args.order 0 []) _ c.of_file-number.ensures c.requires.free c.in_ok-slip.ensures.opens
    (inl (file_cannot c.in_ok-slip.object (FileInit Memfd c.args.order 0 []) (cannot_init _ Memfd c.args.order 0 [] _ c.if-is_present.true c.is_present.ensures) c.args.at.now _))
    c.broken_file.ensures.halt c.broken_file.ensures.held

pub end-requires : goal.end-requires
end-requires g c =
    let t = c.init-entry.ensures in
    kinds.file_can_at _ _ _ _ _ _ [] _ _ _ c.in_ok-slip.ensures.opens c.requires.free _ c.in_ok-slip.ensures.at t.told _ c.of_file-number.ensures c.requires.ready t.kept t.number t.start t.home t.run

pub returns-clause-goes : goal.returns-clause-goes
returns-clause-goes g c =
    kinds.file_turned_at _ _ _ _ _ c.init-entry.new.self [] _ _ _ c.in_ok-slip.ensures.opens c.requires.free _ c.in_ok-slip.ensures.at c.init-entry.ensures.told _ c.of_file-number.ensures _ tt c.end.ensures

pub returns-in_err-slip-clause-sticks : goal.returns-in_err-slip-clause-sticks
returns-in_err-slip-clause-sticks g c =
    let p = err_from_is_err_and c.from_residual.result c.from_residual.ensures.1 in rw (p.1, p.2) (sticks_any _ _ _ _ _ c.in_err-slip.ensures.sticks)
