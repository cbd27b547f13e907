use Rattle.std.proofs.Common.{◌-◌, vec_len}
use Rattle.file_folios.proofs.Giving.{Giving}
use Rattle.file_folios.proofs.going_home.give_all.Given as goal

abbrev pub invariant-loop-at : goal.invariant-loop-at
invariant-loop-at l = Giving l.fn.frames l.fn.slots.items l.at l.slots.items l.frames

abbrev pub decreases-loop-at : goal.decreases-loop-at
decreases-loop-at l = vec_len l.slots - l.at
