use Rattle.std.proofs.Common.{◌≡◌, length}
use Rattle.phys_frames.specs.Memory.{AllHome}
use Rattle.records_bench.proofs.measure.Given as goal

-- all frames are home, as many as before
abbrev pub invariant-loop : goal.invariant-loop
invariant-loop g l = AllHome l.frames × (length l.frames.pages ≡ length l.fn.frames.pages)
