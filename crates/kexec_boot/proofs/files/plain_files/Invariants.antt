use Rattle.std.proofs.Common.{[]}
use Rattle.kho_records.proofs.Adding.{Added}
use Rattle.kexec_boot.specs.Files.{plain_with}
use Rattle.kexec_boot.proofs.files.plain_files.Given as goal

abbrev pub invariant-loop-session : goal.invariant-loop-session
invariant-loop-session l = Added plain_with [] l.sessions l.session-index l.plain.items
