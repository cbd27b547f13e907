-- The block was read up to the rest, and each item took four bytes.
use Rattle.std.proofs.Common.{◌+◌, ◌*◌, ◌≤◌, length, vec_len}
use Rattle.fdt_blob.specs.Items.{item_views}
use Rattle.fdt_blob.specs.Cut.{HasRead}
use Rattle.fdt_blob.proofs.structure.items_of.Given as goal

abbrev pub invariant-loop-rest : goal.invariant-loop-rest
invariant-loop-rest l = HasRead l.strings l.block (item_views l.items.items) l.rest × (4 * vec_len l.items + length l.rest ≤ length l.block)

abbrev pub decreases-loop-rest : goal.decreases-loop-rest
decreases-loop-rest l = length l.rest
