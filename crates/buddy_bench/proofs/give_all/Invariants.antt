use Rattle.std.proofs.Common.{◌≡◌, ◌<◌, ◌≤◌, ℕ, true, length, get_or}
use Rattle.ho_base.specs.declared.numbers.Pfn.{Pfn}
use Rattle.buddy_pages.specs.FreeFrames.{none_free}
use Rattle.buddy_bench.proofs.give_all.Given as goal

abbrev pub invariant-loop-frame : goal.invariant-loop-frame
invariant-loop-frame l = record {
  long : length l.buddy ≡ length l.fn.buddy;
  taken : (k : ℕ) (d : Pfn) → l.frame-index ≤ k → k < length l.frames → none_free l.buddy (get_or l.frames k d).0 1 ≡ true;
}
