use Rattle.fdt_blob.proofs.PlaceItems.{is_within}
use Rattle.fdt_blob.proofs.places.inner.Goals as goal

pub slice_bounds-result-count : goal.slice_bounds-result-count
slice_bounds-result-count c = is_within c.args.items.now c.args.node.0 c.requires

pub slice_bounds-result-start : goal.slice_bounds-result-start
slice_bounds-result-start c = is_within c.args.items.now c.args.node.0 c.requires
