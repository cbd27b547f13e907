use Rattle.std.proofs.Common.{ℕ, ◌<◌, get_or}
use Rattle.phys_frames.specs.Memory.{FolioValue}
use Rattle.kho_writer.proofs.bytes.have_bytes.Given as goal

abbrev pub invariant-loop-i : goal.invariant-loop-i
invariant-loop-i l = (k : ℕ) → k < l.i → (d : FolioValue) → (j : ℕ) → get_or (get_or l.folios k d).bytes j 0 < 256
