use Rattle.std.proofs.Common.{◌≡◌, ◌+◌, ◌*◌, ◌^◌, ◌≤◌, length}
use Rattle.std.specs.Vec.{vec_capacity}
use Rattle.std.specs.Vec.Iter.{into_iter_items, into_iter_len}
use Rattle.ho_base.specs.declared.limits.TheConstants.{PAGE_BYTES}
use Rattle.file_folios.proofs.HeldStates.{Holding}
use Rattle.file_folios.proofs.holding.slots_of.Given as goal

abbrev pub invariant-loop-folio : goal.invariant-loop-folio
invariant-loop-folio l = Holding l.fn.home.value l.fn.order (PAGE_BYTES * 2 ^ l.fn.order.0) l.fn.folios.items l.slots.items (into_iter_items l.rest) × (into_iter_len l.rest ≡ length (into_iter_items l.rest))
    × (length l.slots.items + length (into_iter_items l.rest) ≤ vec_capacity l.slots)

abbrev pub decreases-loop-folio : goal.decreases-loop-folio
decreases-loop-folio l = into_iter_len l.rest
