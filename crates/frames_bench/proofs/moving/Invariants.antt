use Rattle.std.proofs.Common.{◌≡◌, length}
use Rattle.phys_frames.specs.Memory.{AllHome}
use Rattle.frames_bench.proofs.moving.Given as goal

-- every frame is home again after each round
abbrev pub invariant-loop-round : goal.invariant-loop-round
invariant-loop-round g l = AllHome l.frames × (length l.frames.pages ≡ length l.fn.frames.pages)
