use Rattle.std.proofs.Common.{◌≡◌, drop}
use Rattle.records_bench.specs.Tests.{past_folios}
use Rattle.records_bench.proofs.room.past_folios.Given as goal

-- the folios that are left, from here on, end where all folios do
abbrev pub invariant-loop-folio : goal.invariant-loop-folio
invariant-loop-folio l = past_folios l.at (drop l.folio-index l.folios) ≡ past_folios l.from l.folios
