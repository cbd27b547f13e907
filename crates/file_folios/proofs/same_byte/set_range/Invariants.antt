use Rattle.std.proofs.Common.{◌≡◌, ◌-◌, replicate, vec_capacity}
use Rattle.file_folios.proofs.Writing.{Writing}
use Rattle.file_folios.proofs.same_byte.set_range.Given as goal

abbrev pub invariant-loop-done : goal.invariant-loop-done
invariant-loop-done l = Writing l.fn.home.value l.fn.order l.fn.piece l.fn.off (replicate l.fn.len l.fn.byte) l.fn.slots.items l.done l.slots.items × (vec_capacity l.slots ≡ vec_capacity l.fn.slots)

abbrev pub decreases-loop-done : goal.decreases-loop-done
decreases-loop-done l = l.len - l.done
