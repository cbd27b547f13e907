use Rattle.fdt_blob.specs.Places.{IsNodeAt}
use Rattle.fdt_tool.proofs.look.find.Given as goal

-- a node stands at the place so far
abbrev pub invariant-loop-name : goal.invariant-loop-name
invariant-loop-name l = IsNodeAt l.reader l.node.0
