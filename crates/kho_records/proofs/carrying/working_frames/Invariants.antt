use Rattle.std.proofs.Common.{◌∷◌}
use Rattle.ho_events.specs.Lists.{firsts}
use Rattle.kho_records.proofs.Adding.{Added}
use Rattle.kho_records.proofs.Shown.{one_number}
use Rattle.kho_records.proofs.carrying.working_frames.Given as goal

abbrev pub invariant-loop-chunk : goal.invariant-loop-chunk
invariant-loop-chunk l = Added one_number (l.fn.entry.0 ∷ firsts l.numbers) l.chunks l.chunk-index (firsts l.working.items)
