use Rattle.std.proofs.Common.{◌≡◌, vec_len}
use Rattle.std.specs.List.{All}
use Rattle.machine_core.proofs.Gathered.{PageHome}
use Rattle.machine_core.proofs.MoreHome.{Came}
use Rattle.machine_core.proofs.gathering.give_folios.Given as goal

-- what is left is of the frames' home, and what is gone has its pages at home
abbrev pub invariant-loop-folio : goal.invariant-loop-folio
invariant-loop-folio l = Came PageHome l.initial.folios.items l.folios.items l.initial.frames l.frames × All (λ f. f.home ≡ l.initial.frames.home) l.folios.items

abbrev pub decreases-loop-folio : goal.decreases-loop-folio
decreases-loop-folio l = vec_len l.folios
