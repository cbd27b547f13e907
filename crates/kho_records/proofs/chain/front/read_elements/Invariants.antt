use Rattle.kho_records.specs.Chunks.{element_view}
use Rattle.kho_records.specs.Fronts.{element_kept}
use Rattle.record_frames.proofs.Items.{IsRead}
use Rattle.kho_records.proofs.chain.front.read_elements.Given as goal

abbrev pub invariant-loop-i : goal.invariant-loop-i
invariant-loop-i l = IsRead element_view 528 (element_kept l.frames) l.count l.bytes l.i l.elements.items
