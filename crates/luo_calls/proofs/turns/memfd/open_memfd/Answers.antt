use Rattle.std.proofs.Common.{refl, [], inl, inr}
use Rattle.std.proofs.lemmas.Result.{err_from_is_err_and}
use Rattle.luo_calls.proofs.FileHalts.{broken_file_sticks, is_shut, opens_more}
use Rattle.luo_calls.proofs.Sticking.{sticks_any}
use Rattle.luo_calls.proofs.turns.memfd.open_memfd.Goals as goal

pub returns-then-not-is_open-clause-sticks : goal.returns-then-not-is_open-clause-sticks
returns-then-not-is_open-clause-sticks g c event label runs =
    broken_file_sticks _ _ _ _ _ c.in_ok-object.object event _ c.of_file-number.ensures c.requires.free c.in_ok-object.ensures.opens
    (inr (inl (label, is_shut c.in_ok-object.object _ c.if-not-is_open.true c.is_open.ensures)))
    c.broken_file.ensures.halt c.broken_file.ensures.held

pub returns-in_err-object-clause-sticks : goal.returns-in_err-object-clause-sticks
returns-in_err-object-clause-sticks g c =
    let p = err_from_is_err_and c.from_residual.result c.from_residual.ensures.1 in rw (p.1, p.2) (λ event label runs. sticks_any _ _ _ _ _ c.in_err-object.ensures.sticks)

pub returns-in-Ok-clause-opens : goal.returns-in-Ok-clause-opens
returns-in-Ok-clause-opens g c =
    let t = c.reserve.ensures in opens_more _ _ _ _ c.in_ok-object.object c.reserve.new.self c.in_ok-object.ensures.opens t.number t.start t.history t.home c.in-Ok.ensures.entries
