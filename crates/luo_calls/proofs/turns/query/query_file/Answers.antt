use Rattle.std.proofs.Common.{refl, [], inl, inr}
use Rattle.std.proofs.lemmas.Result.{err_from_is_err_and}
use Rattle.luo_calls.specs.Queries.{query_event}
use Rattle.luo_calls.proofs.FileHalts.{broken_file_sticks, is_shut}
use Rattle.luo_calls.proofs.KindTurns as kinds
use Rattle.luo_calls.proofs.QueryCommands.{query_by_label}
use Rattle.luo_calls.proofs.Sticking.{sticks_any}
use Rattle.luo_calls.proofs.turns.query.query_file.Goals as goal

pub returns-then-not-is_open-clause-sticks : goal.returns-then-not-is_open-clause-sticks
returns-then-not-is_open-clause-sticks g c =
    broken_file_sticks _ _ _ _ _ c.in_ok-slip.object (query_event c.args.query) _ c.of_file-number.ensures c.requires.free c.in_ok-slip.ensures.opens
    (inr (inl (query_by_label c.args.query, is_shut c.in_ok-slip.object _ c.if-not-is_open.true c.is_open.ensures)))
    c.broken_file.ensures.halt c.broken_file.ensures.held

pub end-requires : goal.end-requires
end-requires g c =
    let t = c.asked-entry.ensures in
    kinds.file_can_at _ _ _ _ _ _ [] _ _ _ c.in_ok-slip.ensures.opens c.requires.free _ c.in_ok-slip.ensures.at t.told _ c.of_file-number.ensures c.requires.ready t.kept t.number t.start t.home t.run

pub returns-clause-goes : goal.returns-clause-goes
returns-clause-goes g c =
    kinds.file_turned_at _ _ _ _ _ c.asked-entry.new.object [] _ _ _ c.in_ok-slip.ensures.opens c.requires.free _ c.in_ok-slip.ensures.at c.asked-entry.ensures.told _ c.of_file-number.ensures _ tt c.end.ensures

pub returns-in_err-slip-clause-sticks : goal.returns-in_err-slip-clause-sticks
returns-in_err-slip-clause-sticks g c =
    let p = err_from_is_err_and c.from_residual.result c.from_residual.ensures.1 in rw (p.1, p.2) (sticks_any _ _ _ _ _ c.in_err-slip.ensures.sticks)
