use Rattle.std.proofs.lemmas.Result.{err_from_is_err_and}
use Rattle.luo_calls.proofs.KindTurns as kinds
use Rattle.luo_calls.proofs.Sticking.{sticks_any}
use Rattle.luo_incoming.proofs.Replies.{find_in_replied}
use Rattle.luo_incoming.proofs.turns.registry.find_in.Goals as goal

pub end-requires : goal.end-requires
end-requires g c =
    let t = c.find_in-entry.ensures in
    kinds.registry_can _ _ _ _ _ _ _ _ c.in_ok-slip.ensures.opens c.requires.free _ c.in_ok-slip.ensures.at t.told c.requires.ready t.kept t.start t.run

pub returns-clause-goes : goal.returns-clause-goes
returns-clause-goes g c =
    kinds.registry_turned _ _ _ _ c.find_in-entry.new.self _ _ _ c.in_ok-slip.ensures.opens c.requires.free _ c.in_ok-slip.ensures.at c.find_in-entry.ensures.told _ c.end.ensures

pub returns-in_err-slip-clause-sticks : goal.returns-in_err-slip-clause-sticks
returns-in_err-slip-clause-sticks g c =
    let p = err_from_is_err_and c.from_residual.result c.from_residual.ensures.1 in rw (p.1, p.2) (sticks_any _ _ _ _ _ c.in_err-slip.ensures.sticks)

pub returns-clause-reply : goal.returns-clause-reply
returns-clause-reply g c = find_in_replied _ _ c.args.name c.find_in-entry.ensures.exact c.find_in-entry.ensures.within
