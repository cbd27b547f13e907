use Rattle.std.proofs.Common.{◌≡◌, length}
use Rattle.phys_frames.specs.Memory.{AllHome}
use Rattle.records_tests.proofs.first_path.put_all.Given as goal

-- all frames are home, and there are as many as before
abbrev pub invariant-loop-i : goal.invariant-loop-i
invariant-loop-i l = AllHome l.frames × (length l.frames.pages ≡ length l.fn.frames.pages)
