use Rattle.std.proofs.Common.{◌+◌, ◌-◌, ◌≤◌, vec_len, vec_capacity}
use Rattle.file_folios.proofs.Reading.{Reading}
use Rattle.file_folios.proofs.slots.read_range.Given as goal

abbrev pub invariant-loop-done : goal.invariant-loop-done
invariant-loop-done l = Reading l.fn.piece l.fn.off l.fn.len l.fn.slots l.fn.out.items l.done l.out.items × (vec_len l.out + (l.len - l.done) ≤ vec_capacity l.out)

abbrev pub decreases-loop-done : goal.decreases-loop-done
decreases-loop-done l = l.len - l.done
