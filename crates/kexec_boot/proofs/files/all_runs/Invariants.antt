use Rattle.std.proofs.Common.{[]}
use Rattle.kho_records.proofs.Adding.{Added}
use Rattle.kexec_boot.specs.Files.{runs_with}
use Rattle.kexec_boot.proofs.files.all_runs.Given as goal

abbrev pub invariant-loop-session : goal.invariant-loop-session
invariant-loop-session l = Added runs_with [] l.sessions l.session-index l.runs.items
