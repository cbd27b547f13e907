use Rattle.luo_calls.proofs.Sticking.{sticks_any}
use Rattle.std.proofs.lemmas.Result.{err_from_is_err_and}
use Rattle.luo_calls.proofs.Replies.{create_replied}
use Rattle.luo_calls.proofs.KindTurns as kinds
use Rattle.luo_calls.proofs.turns.registry.create_name.Goals as goal

pub end-requires : goal.end-requires
end-requires g c =
    let t = c.create-entry.ensures in
    kinds.registry_can _ _ _ _ _ _ _ _ c.in_ok-slip.ensures.opens c.requires.free _ c.in_ok-slip.ensures.at t.told c.requires.ready t.kept t.start t.run

pub returns-clause-goes : goal.returns-clause-goes
returns-clause-goes g c =
    kinds.registry_turned _ _ _ _ c.create-entry.new.self _ _ _ c.in_ok-slip.ensures.opens c.requires.free _ c.in_ok-slip.ensures.at c.create-entry.ensures.told _ c.end.ensures

pub returns-clause-reply : goal.returns-clause-reply
returns-clause-reply g c = create_replied _ _ c.args.name c.create-entry.ensures.exact c.create-entry.ensures.within

pub returns-in_err-slip-clause-sticks : goal.returns-in_err-slip-clause-sticks
returns-in_err-slip-clause-sticks g c =
    let p = err_from_is_err_and c.from_residual.result c.from_residual.ensures.1 in rw (p.1, p.2) (sticks_any _ _ _ _ _ c.in_err-slip.ensures.sticks)
