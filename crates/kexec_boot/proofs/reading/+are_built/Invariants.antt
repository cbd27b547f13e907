use Rattle.std.proofs.Common.{length}
use Rattle.kexec_boot.proofs.reading.+are_built.Given as goal

abbrev pub decreases-are_built : goal.decreases-are_built
decreases-are_built l = length l.files.now
