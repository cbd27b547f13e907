use Rattle.std.proofs.Common.{map}
use Rattle.kho_records.specs.Owned.{run_view}
use Rattle.kho_records.proofs.Adding.{Added}
use Rattle.kho_records.proofs.RunLists.{sheet_runs}
use Rattle.kho_records.proofs.users.add_file.Given as goal

abbrev pub invariant-loop-sheet : goal.invariant-loop-sheet
invariant-loop-sheet l = Added (sheet_runs l.file.slot.order) (map run_view l.fn.users.items) l.file.lists.items l.sheet-index (map run_view l.users.items)
