use Rattle.std.proofs.Common.{◌++◌, List, map, length, ap, ◌∙◌, arith}
use Rattle.folio_bitmaps.specs.Runs.{Run}
use Rattle.kho_records.specs.Owned.{run_view}
use Rattle.kho_records.proofs.Adding.{ended}
use Rattle.kho_records.proofs.RunLists.{sheet_runs, sheets_runs}
use Rattle.record_frames.specs.declared.lists.ListSheet.{ListSheet}
use Rattle.kho_records.proofs.users.add_file.Goals as goal

pub returns : goal.returns
returns c =
    ended (sheet_runs c.args.file.now.slot.order) (map run_view c.args.users.now.items) c.args.file.now.lists.items c.loop-sheet.sheet-index (map run_view c.loop-sheet.users.items)
    c.loop-sheet.invariant (omega (arith, ap (λ (l : List ListSheet). length l) c.deref-sheet-items.ensures.value))
    ∙ ap (λ (l : List Run). map run_view c.args.users.now.items ++ l) (sheets_runs c.args.file.now.slot.order c.args.file.now.lists.items)
