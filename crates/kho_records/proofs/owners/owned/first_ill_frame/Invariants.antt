use Rattle.kho_records.proofs.Found.{AreRight}
use Rattle.kho_records.proofs.owners.owned.first_ill_frame.Given as goal

abbrev pub invariant-loop-p : goal.invariant-loop-p
invariant-loop-p l = AreRight l.users l.shape.scratch l.chunks l.p
