use Rattle.std.proofs.Common.{◌≡◌}
use Rattle.record_frames.specs.Sheets.{items_of}
use Rattle.kho_records.specs.Chunks.{chunk_views}
use Rattle.kho_records.specs.Owner.{owner_of, marked_below}
use Rattle.kho_records.proofs.owners.marked.marked_owner.Given as goal

abbrev pub invariant-loop-order : goal.invariant-loop-order
invariant-loop-order l = l.marked ≡ owner_of (marked_below (items_of (chunk_views l.chunks)) l.p l.order) 0
