-- What was taken so far stands at the front.
use Rattle.std.proofs.Common.{length, take, ◌-◌, ◌≡◌, ◌≤◌}
use Rattle.ho_io.specs.Told.{in_front}
use Rattle.image_file.proofs.loader.read_full.Given as goal

abbrev pub invariant-loop-done : goal.invariant-loop-done
invariant-loop-done g l = record {
  within : l.done ≤ length l.buf;
  taken : g.S.Source.left l.fn.src ≡ in_front (take l.done l.buf) (g.S.Source.left l.src);
  counts : g.S.Source.faults l.fn.src ≤ g.S.Source.faults l.src;
}

abbrev pub decreases-loop-done : goal.decreases-loop-done
decreases-loop-done g l = length l.buf - l.done
