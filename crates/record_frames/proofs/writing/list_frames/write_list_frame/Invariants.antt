use Rattle.std.proofs.Common.{◌≡◌, ◌++◌, take, length}
use Rattle.std.specs.List.{flat_map}
use Rattle.ho_events.specs.Lists.{firsts}
use Rattle.record_frames.specs.Sheets.{number}
use Rattle.record_frames.specs.Writing.{holding}
use Rattle.record_frames.proofs.writing.list_frames.write_list_frame.Given as goal

abbrev pub invariant-loop-i : goal.invariant-loop-i
invariant-loop-i l = l.folio ≡ holding l.fn.folio ((number l.next ++ number (length l.runs)) ++ flat_map number (take l.i (firsts l.runs)))
