use Rattle.std.proofs.Common.{◌≡◌, ◌+◌, ◌-◌, ◌≤◌}
use Rattle.std.specs.Vec.{vec_capacity, vec_len}
use Rattle.kexec_boot.proofs.HeldSteps.{Moving}
use Rattle.kexec_boot.proofs.holding.next_folios.Given as goal

abbrev pub invariant-loop-folios : goal.invariant-loop-folios
invariant-loop-folios l = Moving l.fn.folios.items l.list.items l.folios.items × (vec_len l.list ≤ l.fn.count) × (l.fn.count ≤ vec_capacity l.list)
    × (vec_len l.list + vec_len l.folios ≡ vec_len l.fn.folios) × (vec_capacity l.folios ≡ vec_capacity l.fn.folios)

abbrev pub decreases-loop-folios : goal.decreases-loop-folios
decreases-loop-folios l = l.fn.count - vec_len l.list
