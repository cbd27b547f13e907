use Rattle.kho_records.specs.Owner.{with_user}
use Rattle.kho_records.proofs.Tables.{Added}
use Rattle.kho_records.proofs.owners.table.add_users.Given as goal

abbrev pub invariant-loop-user : goal.invariant-loop-user
invariant-loop-user l = Added with_user l.users l.user-index l.fn.owners l.owners
