use Rattle.std.proofs.Common.{ℕ, List, ◌∷◌, ◌++◌, ap, ◌∙◌, arith}
use Rattle.ho_events.specs.Lists.{firsts}
use Rattle.kho_records.proofs.Adding.{ended}
use Rattle.kho_records.proofs.Shown.{one_number, chunk_numbers}
use Rattle.kho_records.proofs.carrying.working_frames.Goals as goal

pub returns : goal.returns
returns c =
    ap firsts c.from_vec.ensures
    ∙ ended one_number (c.args.entry.0 ∷ firsts c.args.numbers.now) c.args.chunks.now c.loop-chunk.chunk-index (firsts c.loop-chunk.working.items) c.loop-chunk.invariant (omega arith)
    ∙ ap (λ (l : List ℕ). (c.args.entry.0 ∷ firsts c.args.numbers.now) ++ l) (chunk_numbers c.args.chunks.now)
