use Rattle.std.proofs.Common.{◌≡◌, ◌≤◌, drop}
use Rattle.std.specs.Prelude.{max}
use Rattle.records_bench.specs.Tests.{scratch_end}
use Rattle.records_bench.proofs.room.scratch_end.Given as goal

-- the areas that are left end behind all areas so far, or before
abbrev pub invariant-loop-area : goal.invariant-loop-area
invariant-loop-area l = record {
  end : max l.end (scratch_end (drop l.area-index l.areas)) ≡ scratch_end l.areas;
  some : 1 ≤ l.end;
}
