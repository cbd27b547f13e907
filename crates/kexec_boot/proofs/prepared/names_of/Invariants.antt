use Rattle.std.proofs.Common.{[]}
use Rattle.kho_records.proofs.Adding.{Added}
use Rattle.kexec_boot.proofs.FileSteps.{one_name}
use Rattle.kexec_boot.proofs.prepared.names_of.Given as goal

abbrev pub invariant-loop-session : goal.invariant-loop-session
invariant-loop-session l = Added one_name [] l.sessions l.session-index l.names.items
