use Rattle.std.proofs.Common.{ap, ◌∙◌}
use Rattle.kho_laws.specs.Tree.{high_first}
use Rattle.kho_writer.proofs.Steps.{then_puts, puts_same}
use Rattle.kho_writer.proofs.entry.tokens.put_area.Goals as goal

pub returns-clause-put : goal.returns-clause-put
returns-clause-put c =
    let first = high_first c.args.area.now.first.0 in
    let count = high_first c.args.area.now.count in
    then_puts c.args.folio.now c.put-count.new.folio c.put.new.folio c.args.at c.put-count.result c.put.result first count c.requires.size
    (puts_same c.args.folio.now c.put-count.new.folio c.args.at c.put-count.result c.to_be_bytes.result first c.put-count.ensures.put (c.to_be_bytes.ensures ∙ ap high_first c.from.ensures))
    (puts_same c.put-count.new.folio c.put.new.folio c.put-count.result c.put.result c.to_be_bytes-2.result count c.put.ensures.put (c.to_be_bytes-2.ensures ∙ ap high_first c.from-2.ensures))
