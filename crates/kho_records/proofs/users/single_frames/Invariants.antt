use Rattle.std.proofs.Common.{◌∷◌}
use Rattle.ho_events.specs.Lists.{firsts}
use Rattle.kho_records.specs.Users.{frame_of}
use Rattle.kho_records.proofs.Adding.{Added}
use Rattle.kho_records.proofs.users.single_frames.Given as goal

abbrev pub invariant-loop-bound : goal.invariant-loop-bound
invariant-loop-bound l = Added frame_of (l.fn.entry.0 ∷ firsts l.numbers) l.bounds l.bound-index (firsts l.frames.items)
