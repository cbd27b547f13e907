use Rattle.folio_bitmaps.proofs.Elements.{ends_from_none, none_from_ends}
use Rattle.folio_bitmaps.proofs.reading.ends_within.Goals as goal

pub returns : goal.returns
returns c = (
  λ t. ends_from_none c.args.frames c.args.order c.args.base c.args.bits.now c.requires.bitmap (c.none_from.ensures.0 t),
  λ ends. c.none_from.ensures.1 (none_from_ends c.args.frames c.args.order c.args.base c.args.bits.now c.requires.bitmap c.requires.size ends),
)
