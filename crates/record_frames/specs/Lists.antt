-- What the program keeps of list frames.
use Rattle.std.specs.Prelude.{ℕ, List, map}
use Rattle.ho_events.specs.Lists.{firsts}
use Rattle.record_frames.specs.Sheets.{Sheet}
use Rattle.record_frames.specs.Reading.{Front}
use Rattle.record_frames.specs.declared.lists.ListFront.{ListFront}
use Rattle.record_frames.specs.declared.lists.ListSheet.{ListSheet}

abbrev pub front_view : ListFront → Front ℕ
front_view f = record { next = f.next; items = firsts f.runs.items }

abbrev pub sheet_view : ListSheet → Sheet ℕ
sheet_view s = record { at = s.at; items = firsts s.runs.items }

abbrev pub sheet_views : List ListSheet → List (Sheet ℕ)
sheet_views sheets = map sheet_view sheets
