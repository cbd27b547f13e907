use Rattle.kho_records.proofs.Tables.{Filled}
use Rattle.kho_records.proofs.owners.table.add_range.Given as goal

abbrev pub invariant-loop-p : goal.invariant-loop-p
invariant-loop-p l = Filled l.first l.p l.more l.fn.owners l.owners
