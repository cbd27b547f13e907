use Rattle.std.proofs.Common.{[]}
use Rattle.ho_events.specs.Lists.{firsts}
use Rattle.kho_records.proofs.Adding.{Added}
use Rattle.kho_records.proofs.Shown.{sheet_firsts}
use Rattle.kho_records.proofs.carrying.carried_runs.Given as goal

abbrev pub invariant-loop-sheet : goal.invariant-loop-sheet
invariant-loop-sheet l = Added sheet_firsts [] l.lists l.sheet-index (firsts l.runs.items)
