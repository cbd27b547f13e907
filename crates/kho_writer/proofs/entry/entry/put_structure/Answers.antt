use Rattle.std.proofs.Common.{◌++◌, map}
use Rattle.kho_writer.specs.Entry.{number_at}
use Rattle.kho_writer.specs.Layout.{root_part, luo_part, bounds_part, ends_part}
use Rattle.kho_writer.proofs.Steps.{then_puts}
use Rattle.kho_writer.proofs.entry.entry.put_structure.Goals as goal

pub returns-clause-put : goal.returns-clause-put
returns-clause-put c =
    let root = root_part c.args.areas.now c.args.chunk.0 in
    let luo = luo_part c.args.number c.args.header.0 in
    let bounds = bounds_part 0 (map number_at c.args.bounds.now) in
    let last = c.put_ends.new.folio in
    let n = c.put_ends.result in
    then_puts c.args.folio.now c.put_root-luo.new.folio last 56 c.put_root-luo.result n root (luo ++ (bounds ++ ends_part)) c.requires.size c.put_root-luo.ensures.put
    (then_puts c.put_root-luo.new.folio c.put_luo-base.new.folio last c.put_root-luo.result c.put_luo-base.result n luo (bounds ++ ends_part)
    c.put_root-luo.ensures.put.size c.put_luo-base.ensures.put
    (then_puts c.put_luo-base.new.folio c.put_bounds-ends.new.folio last c.put_luo-base.result c.put_bounds-ends.result n bounds ends_part
    c.put_luo-base.ensures.put.size c.put_bounds-ends.ensures.put c.put_ends.ensures.put))
