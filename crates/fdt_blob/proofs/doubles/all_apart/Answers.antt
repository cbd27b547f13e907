use Rattle.fdt_blob.proofs.SortedNames.{apart_from_sorted}
use Rattle.fdt_blob.proofs.doubles.all_apart.Goals as goal

pub returns : goal.returns
returns c = apart_from_sorted c.args.names.now.items c.deref.result.now c.neighbours_differ.result (rw c.deref.ensures.value c.sort_unstable.ensures.permutation) (rw c.deref.ensures.value c.sort_unstable.ensures.sorted) c.neighbours_differ.ensures
