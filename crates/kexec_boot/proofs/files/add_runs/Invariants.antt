use Rattle.kho_records.proofs.Adding.{Added}
use Rattle.kexec_boot.proofs.FileSteps.{one_run}
use Rattle.kexec_boot.proofs.files.add_runs.Given as goal

abbrev pub invariant-loop-first : goal.invariant-loop-first
invariant-loop-first l = Added (one_run l.fn.file.order) l.fn.runs.items l.firsts l.first-index l.runs.items
