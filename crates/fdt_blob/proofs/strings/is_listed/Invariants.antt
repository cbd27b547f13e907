use Rattle.std.proofs.Common.{◌≡◌, drop}
use Rattle.std.specs.List.{list_any}
use Rattle.fdt_blob.specs.Trees.{same_name}
use Rattle.fdt_blob.specs.Writing.{texts}
use Rattle.fdt_blob.proofs.strings.is_listed.Given as goal

-- what is left has the name exactly where all have it
abbrev pub invariant-loop-n : goal.invariant-loop-n
invariant-loop-n l = list_any (same_name l.name) (texts (drop l.n-index l.names)) ≡ list_any (same_name l.name) (texts l.names)
