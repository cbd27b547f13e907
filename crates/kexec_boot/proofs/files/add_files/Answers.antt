use Rattle.std.proofs.Common.{◌++◌, ap, ◌∙◌, arith}
use Rattle.kho_records.proofs.Adding.{ended, one_each}
use Rattle.kexec_boot.specs.Files.{plain_of}
use Rattle.kexec_boot.proofs.FileSteps.{one_file}
use Rattle.kexec_boot.proofs.files.add_files.Goals as goal

pub returns : goal.returns
returns c =
    ended one_file c.args.plain.now.items c.args.files.now c.loop-file.file-index c.loop-file.plain.items c.loop-file.invariant (omega arith)
    ∙ ap (λ l. c.args.plain.now.items ++ l) (one_each plain_of c.args.files.now)
