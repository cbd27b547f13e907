use Rattle.std.proofs.Common.{inl, inr}
use Rattle.luo_calls.proofs.FileHalts.{broken_file_sticks, is_shut}
use Rattle.luo_calls.proofs.turns.file.open_label.Goals as goal

pub returns-then-not-is_open-clause-sticks : goal.returns-then-not-is_open-clause-sticks
returns-then-not-is_open-clause-sticks g c event by_label of_runs =
    broken_file_sticks _ _ _ _ _ c.in_ok-object.object event _ c.of_file-number.ensures c.requires.free c.in_ok-object.ensures.opens
    (inr (inl (by_label, is_shut c.in_ok-object.object _ c.if-not-is_open.true c.is_open.ensures)))
    c.broken_file.ensures.halt c.broken_file.ensures.held
