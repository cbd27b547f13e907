use Rattle.kho_records.specs.Owner.{with_area}
use Rattle.kho_records.proofs.Tables.{Added}
use Rattle.kho_records.proofs.owners.table.add_areas.Given as goal

abbrev pub invariant-loop-area : goal.invariant-loop-area
invariant-loop-area l = Added with_area l.areas l.area-index l.fn.owners l.owners
