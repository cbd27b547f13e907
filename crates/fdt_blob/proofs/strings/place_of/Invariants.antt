use Rattle.std.proofs.Common.{◌≡◌, ◌+◌, length, drop}
use Rattle.fdt_blob.specs.Spelling.{strings_of, place_in}
use Rattle.fdt_blob.specs.Writing.{texts}
use Rattle.fdt_blob.proofs.strings.place_of.Given as goal

-- the names that were passed and those that are left are all names
abbrev pub invariant-loop-n : goal.invariant-loop-n
invariant-loop-n l = record {
  place : l.place + place_in (texts (drop l.n-index l.names)) l.name ≡ place_in (texts l.names) l.name;
  size : l.place + length (strings_of (texts (drop l.n-index l.names))) ≡ length (strings_of (texts l.names));
}
