use Rattle.kho_records.proofs.Adding.{Added}
use Rattle.kexec_boot.specs.Files.{runs_of}
use Rattle.kexec_boot.proofs.files.add_session.Given as goal

abbrev pub invariant-loop-file : goal.invariant-loop-file
invariant-loop-file l = Added runs_of l.fn.runs.items l.files l.file-index l.runs.items
