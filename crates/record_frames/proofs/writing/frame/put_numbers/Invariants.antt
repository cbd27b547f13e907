use Rattle.std.proofs.Common.{◌≡◌, take}
use Rattle.std.specs.List.{flat_map}
use Rattle.phys_frames.specs.Memory.{with_bytes, written}
use Rattle.record_frames.specs.Sheets.{number}
use Rattle.record_frames.proofs.writing.frame.put_numbers.Given as goal

abbrev pub invariant-loop-i : goal.invariant-loop-i
invariant-loop-i l = l.folio ≡ with_bytes l.fn.folio (written l.fn.folio.bytes l.at (flat_map number (take l.i l.numbers)))
