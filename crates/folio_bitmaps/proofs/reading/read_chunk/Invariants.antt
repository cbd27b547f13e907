use Rattle.std.proofs.Common.{◌≡◌}
use Rattle.folio_bitmaps.specs.Reading.{Follow, least_after, puts}
use Rattle.folio_bitmaps.proofs.Follows.{upto}
use Rattle.folio_bitmaps.proofs.reading.read_chunk.Given as goal

abbrev pub invariant-loop-k : goal.invariant-loop-k
invariant-loop-k l = record {
  follow : Follow l.frames l.least (upto l.page l.k);
  next : l.next ≡ least_after l.frames l.least (upto l.page l.k);
  bytes : l.bytes ≡ puts l.frames l.fn.bytes (upto l.page l.k);
}
