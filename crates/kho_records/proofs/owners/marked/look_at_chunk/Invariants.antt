use Rattle.record_frames.specs.Rules.{marks}
use Rattle.kho_records.specs.Chunks.{element_view}
use Rattle.kho_records.specs.Owner.{holder}
use Rattle.kho_records.proofs.Flags.{Looked}
use Rattle.kho_records.proofs.owners.marked.look_at_chunk.Given as goal

abbrev pub invariant-loop-element : goal.invariant-loop-element
invariant-loop-element l = Looked (λ e o. marks (holder l.p o) (element_view e)) l.chunk.items.items l.element-index l.fn.flags l.flags
