use Rattle.std.proofs.Common.{inl}
use Rattle.ho_events.specs.declared.event.Event.TheVariants.{FileUnpin}
use Rattle.luo_calls.proofs.Cannot.{file_cannot}
use Rattle.luo_calls.proofs.FileHalts.{broken_file_sticks, cannot_unpin}
use Rattle.luo_calls.proofs.turns.file.open_pinned.Goals as goal

pub returns-then-not-is_pinned-clause-sticks : goal.returns-then-not-is_pinned-clause-sticks
returns-then-not-is_pinned-clause-sticks g c =
    broken_file_sticks _ _ _ _ _ c.in_ok-object.object FileUnpin _ c.of_file-number.ensures c.requires.free c.in_ok-object.ensures.opens
    (inl (file_cannot c.in_ok-object.object FileUnpin (cannot_unpin _ _ c.if-not-is_pinned.true c.is_pinned.ensures) c.args.at _))
    c.broken_file.ensures.halt c.broken_file.ensures.held
