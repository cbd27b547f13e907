use Rattle.std.proofs.Common.{[], arith}
use Rattle.kho_records.proofs.Adding.{ended}
use Rattle.kexec_boot.specs.Files.{runs_with}
use Rattle.kexec_boot.proofs.files.all_runs.Goals as goal

pub returns : goal.returns
returns c = ended runs_with [] c.args.sessions.now c.loop-session.session-index c.loop-session.runs.items c.loop-session.invariant (omega arith)
