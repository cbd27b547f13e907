use Rattle.std.proofs.Common.{◌≡◌, ◌-◌, drop}
use Rattle.fdt_blob.specs.Trees as trees
use Rattle.fdt_blob.specs.Writing.{trees_of}
use Rattle.fdt_blob.specs.declared.tree.Node.{out-Node}
use Rattle.fdt_blob.proofs.profile.+is_within_levels.Given as goal

-- what is left keeps the rule exactly where all do
abbrev pub invariant-loop-child : goal.invariant-loop-child
invariant-loop-child l =
    trees.all_within_levels (l.levels - 1) (trees_of (drop l.child-index (out-Node l.node).children.items))
    ≡ trees.all_within_levels (l.levels - 1) (trees_of (out-Node l.node).children.items)
