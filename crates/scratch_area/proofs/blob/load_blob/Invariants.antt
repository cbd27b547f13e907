use Rattle.std.proofs.Common.{◌≡◌, ℕ, ◌+◌, ◌<◌, ◌≤◌, ◌⊎◌, length, Some}
use Rattle.ho_base.specs.declared.numbers.Pfn.{Pfn}
use Rattle.phys_frames.specs.Memory.{page_at}
use Rattle.scratch_area.specs.BlobPages.{blob_page}
use Rattle.scratch_area.proofs.blob.load_blob.Given as goal

abbrev pub invariant-loop-i : goal.invariant-loop-i
invariant-loop-i l = record {
  loaded : (k : ℕ) → k < l.i → page_at l.frames (record { 0 = l.at.0 + k }) ≡ Some (blob_page l.blob.version k);
  others : (p : Pfn) → (p.0 < l.at.0) ⊎ (l.at.0 + l.i ≤ p.0) → page_at l.frames p ≡ page_at l.fn.frames p;
  count : length l.frames.pages ≡ length l.fn.frames.pages;
  home : l.frames.home ≡ l.fn.frames.home;
}
