use Rattle.std.proofs.lemmas.Result.{err_from_is_err_and}
use Rattle.luo_calls.proofs.KindTurns as kinds
use Rattle.luo_calls.proofs.Sticking.{sticks_any}
use Rattle.luo_incoming.proofs.Replies.{open_replied}
use Rattle.luo_incoming.proofs.turns.registry.open_name.Goals as goal

pub end-requires : goal.end-requires
end-requires g c =
    let t = c.open-entry.ensures in
    kinds.registry_can _ _ _ _ _ _ _ _ c.in_ok-slip.ensures.opens c.requires.free _ c.in_ok-slip.ensures.at t.told c.requires.ready t.kept t.start t.run

pub returns-clause-goes : goal.returns-clause-goes
returns-clause-goes g c =
    kinds.registry_turned _ _ _ _ c.open-entry.new.self _ _ _ c.in_ok-slip.ensures.opens c.requires.free _ c.in_ok-slip.ensures.at c.open-entry.ensures.told _ c.end.ensures

pub returns-in_err-slip-clause-sticks : goal.returns-in_err-slip-clause-sticks
returns-in_err-slip-clause-sticks g c =
    let p = err_from_is_err_and c.from_residual.result c.from_residual.ensures.1 in rw (p.1, p.2) (sticks_any _ _ _ _ _ c.in_err-slip.ensures.sticks)

pub returns-clause-reply : goal.returns-clause-reply
returns-clause-reply g c = open_replied _ _ c.args.name c.open-entry.ensures.exact c.open-entry.ensures.within
