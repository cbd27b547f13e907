use Rattle.std.proofs.Common.{[], ◌∙◌, arith}
use Rattle.kho_records.proofs.Adding.{ended, one_each}
use Rattle.kexec_boot.proofs.FileSteps.{one_name, name_of}
use Rattle.kexec_boot.proofs.prepared.names_of.Goals as goal

pub returns : goal.returns
returns c =
    ended one_name [] c.args.sessions.now c.loop-session.session-index c.loop-session.names.items c.loop-session.invariant (omega arith) ∙ one_each name_of c.args.sessions.now
