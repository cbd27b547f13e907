use Rattle.std.proofs.Common.{arith}
use Rattle.kho_records.proofs.Adding.{ended}
use Rattle.kexec_boot.specs.Files.{runs_of}
use Rattle.kexec_boot.proofs.files.add_session.Goals as goal

pub returns : goal.returns
returns c = ended runs_of c.args.runs.now.items c.args.files.now c.loop-file.file-index c.loop-file.runs.items c.loop-file.invariant (omega arith)
