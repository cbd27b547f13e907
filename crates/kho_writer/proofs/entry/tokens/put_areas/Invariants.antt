use Rattle.std.proofs.Common.{◌≡◌, ◌+◌, ◌*◌, take}
use Rattle.std.specs.List.{flat_map}
use Rattle.kho_laws.specs.Tree.{area_bytes}
use Rattle.kho_writer.specs.Layout.{Puts}
use Rattle.kho_writer.proofs.entry.tokens.put_areas.Given as goal

abbrev pub invariant-loop-i : goal.invariant-loop-i
invariant-loop-i l = record {
  puts : Puts l.fn.folio l.at (flat_map area_bytes (take l.i l.areas)) l.folio l.end;
  so_far : l.end ≡ l.at + 16 * l.i;
}
