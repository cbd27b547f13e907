use Rattle.std.proofs.Common.{length}
use Rattle.kexec_boot.proofs.reading.+is_built.Given as goal

abbrev pub decreases-is_built : goal.decreases-is_built
decreases-is_built l = length l.sessions.now
