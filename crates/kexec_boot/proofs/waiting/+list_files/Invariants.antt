use Rattle.std.proofs.Common.{length}
use Rattle.kexec_boot.proofs.waiting.+list_files.Given as goal

abbrev pub decreases-list_files : goal.decreases-list_files
decreases-list_files l = length l.left.now
