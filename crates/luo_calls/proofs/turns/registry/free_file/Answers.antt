use Rattle.luo_calls.proofs.Sticking.{sticks_any}
use Rattle.std.proofs.lemmas.Result.{err_from_is_err_and}
use Rattle.ho_events.specs.declared.event.Event.TheVariants.{RegFreeFile}
use Rattle.luo_calls.proofs.Cannot.{registry_cannot}
use Rattle.luo_calls.proofs.KindTurns as kinds
use Rattle.luo_calls.proofs.RegistryHalts.{broken_sticks, cannot_free}
use Rattle.luo_calls.proofs.turns.registry.free_file.Goals as goal

pub returns-then-not-in_use-clause-sticks : goal.returns-then-not-in_use-clause-sticks
returns-then-not-in_use-clause-sticks g c =
    broken_sticks _ _ _ c.in_ok-slip.registry _ c.requires.free c.in_ok-slip.ensures.opens (RegFreeFile c.args.file)
    (registry_cannot c.in_ok-slip.registry (RegFreeFile c.args.file) (cannot_free _ c.args.file _ c.if-not-in_use.true c.in_use.ensures) c.args.at.now _)
    c.broken_registry.ensures.halt c.broken_registry.ensures.held

pub end-requires : goal.end-requires
end-requires g c =
    let t = c.free_file-entry.ensures in
    kinds.registry_can _ _ _ _ _ _ _ _ c.in_ok-slip.ensures.opens c.requires.free _ c.in_ok-slip.ensures.at t.told c.requires.ready t.kept t.start t.run

pub returns-clause-goes : goal.returns-clause-goes
returns-clause-goes g c =
    kinds.registry_turned _ _ _ _ c.free_file-entry.new.self _ _ _ c.in_ok-slip.ensures.opens c.requires.free _ c.in_ok-slip.ensures.at c.free_file-entry.ensures.told _ c.end.ensures

pub returns-in_err-slip-clause-sticks : goal.returns-in_err-slip-clause-sticks
returns-in_err-slip-clause-sticks g c =
    let p = err_from_is_err_and c.from_residual.result c.from_residual.ensures.1 in rw (p.1, p.2) (sticks_any _ _ _ _ _ c.in_err-slip.ensures.sticks)
