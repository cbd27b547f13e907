use Rattle.std.proofs.Common.{◌≡◌, drop}
use Rattle.record_frames.specs.State.{bound_among}
use Rattle.kho_writer.proofs.bounds.bound_frame.Given as goal

abbrev pub invariant-loop-bound : goal.invariant-loop-bound
invariant-loop-bound l = bound_among (drop l.bound-index l.bounds) l.kind ≡ bound_among l.bounds l.kind
