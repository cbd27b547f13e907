use Rattle.std.proofs.Common.{◌≡◌, take}
use Rattle.ho_events.specs.Lists.{firsts}
use Rattle.record_frames.specs.Rules.{LISTED}
use Rattle.record_frames.specs.Sheets.{chain_pages, number}
use Rattle.record_frames.specs.Writing.{frames_of, parts, sheets_in, with_pages}
use Rattle.record_frames.proofs.writing.list_frames.write_lists.Given as goal

abbrev pub invariant-loop-i : goal.invariant-loop-i
invariant-loop-i l =
    l.folios ≡ with_pages l.fn.folios (take l.i (chain_pages 16 number (sheets_in (frames_of l.fn.folios) (parts LISTED (firsts l.file.runs)))))
