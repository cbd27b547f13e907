use Rattle.std.proofs.Common.{ℕ, ◌<◌}
use Rattle.record_frames.specs.Sheeted.{ram_of}
use Rattle.kho_records.proofs.Held.{HoldsPage}
use Rattle.kho_records.proofs.pages.hold_pages.Given as goal

abbrev pub invariant-loop-p : goal.invariant-loop-p
invariant-loop-p l = (q : ℕ) → q < l.p → HoldsPage (ram_of l.frames) q
