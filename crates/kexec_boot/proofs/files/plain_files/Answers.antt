use Rattle.std.proofs.Common.{[], arith}
use Rattle.kho_records.proofs.Adding.{ended}
use Rattle.kexec_boot.specs.Files.{plain_with}
use Rattle.kexec_boot.proofs.files.plain_files.Goals as goal

pub returns : goal.returns
returns c = ended plain_with [] c.args.sessions.now c.loop-session.session-index c.loop-session.plain.items c.loop-session.invariant (omega arith)
