use Rattle.std.proofs.Common.{◌≡◌, length, vec_len}
use Rattle.records_bench.specs.Taken.{AreTaken}
use Rattle.records_bench.proofs.folios.give_folios.Given as goal

-- the folios that are left are those from the first on
abbrev pub invariant-loop-folio : goal.invariant-loop-folio
invariant-loop-folio l = AreTaken l.frames l.first l.folios.items × (length l.frames.pages ≡ length l.fn.frames.pages)

abbrev pub decreases-loop-folio : goal.decreases-loop-folio
decreases-loop-folio l = vec_len l.folios
