use Rattle.kho_records.proofs.Adding.{Added}
use Rattle.kexec_boot.proofs.FileSteps.{one_file}
use Rattle.kexec_boot.proofs.files.add_files.Given as goal

abbrev pub invariant-loop-file : goal.invariant-loop-file
invariant-loop-file l = Added one_file l.fn.plain.items l.files l.file-index l.plain.items
