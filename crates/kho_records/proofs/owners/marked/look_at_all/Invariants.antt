use Rattle.std.specs.List.{list_any}
use Rattle.record_frames.specs.Rules.{marks}
use Rattle.kho_records.specs.Chunks.{element_view}
use Rattle.kho_records.specs.Owner.{holder}
use Rattle.kho_records.proofs.Flags.{Looked}
use Rattle.kho_records.proofs.owners.marked.look_at_all.Given as goal

abbrev pub invariant-loop-chunk : goal.invariant-loop-chunk
invariant-loop-chunk l = Looked (λ s o. list_any (λ e. marks (holder l.p o) (element_view e)) s.items.items) l.chunks l.chunk-index l.fn.flags l.flags
