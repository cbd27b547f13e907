use Rattle.kho_records.specs.Owner.{with_chunk}
use Rattle.kho_records.proofs.Tables.{Added}
use Rattle.kho_records.proofs.owners.table.add_chunks.Given as goal

abbrev pub invariant-loop-chunk : goal.invariant-loop-chunk
invariant-loop-chunk l = Added with_chunk l.chunks l.chunk-index l.fn.owners l.owners
