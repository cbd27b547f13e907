use Rattle.std.proofs.Common.{◌≡◌, ◌≤◌, ◌++◌, length, drop}
use Rattle.fdt_blob.specs.Spelling.{strings_of}
use Rattle.fdt_blob.specs.Writing.{texts}
use Rattle.fdt_blob.proofs.writer.make_strings.Given as goal

-- with the bytes of what is left, the bytes so far are those of all; so far they fit
abbrev pub invariant-loop-name : goal.invariant-loop-name
invariant-loop-name l = record {
  bytes : l.out.items ++ strings_of (texts (drop l.name-index l.names)) ≡ strings_of (texts l.names);
  within : length l.out.items ≤ 4096;
}
