use Rattle.std.proofs.Common.{◌≤◌, length}
use Rattle.std.specs.Vec.{vec_capacity}
use Rattle.kexec_boot.proofs.HeldSteps.{Holding}
use Rattle.kexec_boot.proofs.holding.hold_all.Given as goal

abbrev pub invariant-loop-file : goal.invariant-loop-file
invariant-loop-file l = Holding l.fn.pool.home l.files l.fn.store.folios.items l.file-index l.store.files.items l.store.folios.items × (length l.files ≤ vec_capacity l.store.files)
