-- The frames so far were read, and the others are of zeros.
use Rattle.std.proofs.Common.{◌≤◌, ◌-◌}
use Rattle.image_file.proofs.Loading.{IsLoadedTo}
use Rattle.image_file.proofs.loader.load_pages.Given as goal

abbrev pub invariant-loop-done : goal.invariant-loop-done
invariant-loop-done g l = record {
  within : l.done ≤ l.count;
  so_far : IsLoadedTo l.count l.done (g.S.Source.left l.fn.src) (g.S.Source.left l.src) l.frames.pages;
  counts : g.S.Source.faults l.fn.src ≤ g.S.Source.faults l.src;
}

abbrev pub decreases-loop-done : goal.decreases-loop-done
decreases-loop-done g l = l.count - l.done
