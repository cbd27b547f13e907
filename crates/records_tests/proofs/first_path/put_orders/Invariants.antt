use Rattle.std.proofs.Common.{◌≡◌, length}
use Rattle.phys_frames.specs.Memory.{AllHome}
use Rattle.records_tests.proofs.first_path.put_orders.Given as goal

-- all frames are home, and there are as many as before
abbrev pub invariant-loop-order : goal.invariant-loop-order
invariant-loop-order l = AllHome l.frames × (length l.frames.pages ≡ length l.fn.frames.pages)
