use Rattle.std.proofs.Common.{◌≡◌, ◌+◌, ◌≤◌, length, vec_capacity}
use Rattle.records_bench.specs.Taken.{AreTaken}
use Rattle.records_bench.proofs.folios.take_folios.Given as goal

-- so many frames were taken, from the first on
abbrev pub invariant-loop-i : goal.invariant-loop-i
invariant-loop-i l = record {
  taken : AreTaken l.frames l.first l.folios.items;
  count : length l.folios.items ≡ l.i;
  room : l.count ≤ vec_capacity l.folios;
  size : length l.frames.pages ≡ length l.fn.frames.pages;
}
