use Rattle.std.proofs.Common.{◌≡◌, vec_len}
use Rattle.std.specs.List.{All}
use Rattle.pool_core.proofs.frames.table.Table.bring_all_home.Given as goal

-- the table is the same, and the folios that are left are of this home
abbrev pub invariant-loop-folio : goal.invariant-loop-folio
invariant-loop-folio l = (l.self ≡ l.initial.self) × All (λ f. f.home ≡ l.initial.self.home) l.folios.items

abbrev pub decreases-loop-folio : goal.decreases-loop-folio
decreases-loop-folio l = vec_len l.folios
