use Rattle.std.proofs.lemmas.Result.{err_from_is_err_and}
use Rattle.ho_events.specs.declared.event.Event.TheVariants.{RegDropIn}
use Rattle.luo_calls.proofs.Cannot.{registry_cannot}
use Rattle.luo_calls.proofs.KindTurns as kinds
use Rattle.luo_calls.proofs.RegistryHalts.{broken_sticks}
use Rattle.luo_calls.proofs.Sticking.{sticks_any}
use Rattle.luo_incoming.proofs.Slots.{cannot_drop_in}
use Rattle.luo_incoming.proofs.turns.registry.drop_in.Goals as goal

pub returns-then-not-is_opened-clause-sticks : goal.returns-then-not-is_opened-clause-sticks
returns-then-not-is_opened-clause-sticks g c =
    broken_sticks _ _ _ c.in_ok-slip.registry _ c.requires.free c.in_ok-slip.ensures.opens (RegDropIn c.args.name)
    (registry_cannot c.in_ok-slip.registry (RegDropIn c.args.name) (cannot_drop_in _ c.args.name _ c.if-not-is_opened.true c.is_opened.ensures) c.args.at.now _)
    c.broken_registry.ensures.halt c.broken_registry.ensures.held

pub end-requires : goal.end-requires
end-requires g c =
    let t = c.drop_in-entry.ensures in
    kinds.registry_can _ _ _ _ _ _ _ _ c.in_ok-slip.ensures.opens c.requires.free _ c.in_ok-slip.ensures.at t.told c.requires.ready t.kept t.start t.run

pub returns-clause-goes : goal.returns-clause-goes
returns-clause-goes g c =
    kinds.registry_turned _ _ _ _ c.drop_in-entry.new.self _ _ _ c.in_ok-slip.ensures.opens c.requires.free _ c.in_ok-slip.ensures.at c.drop_in-entry.ensures.told _ c.end.ensures

pub returns-in_err-slip-clause-sticks : goal.returns-in_err-slip-clause-sticks
returns-in_err-slip-clause-sticks g c =
    let p = err_from_is_err_and c.from_residual.result c.from_residual.ensures.1 in rw (p.1, p.2) (sticks_any _ _ _ _ _ c.in_err-slip.ensures.sticks)
