use Rattle.std.proofs.Common.{◌++◌}
use Rattle.fdt_blob.specs.Tokens.{word}
use Rattle.kho_laws.specs.Tree.{high_first}
use Rattle.kho_writer.proofs.Steps.{then_puts, puts_same}
use Rattle.kho_writer.proofs.entry.tokens.put_number.Goals as goal

pub returns-clause-put : goal.returns-clause-put
returns-clause-put c =
    then_puts c.args.folio.now c.put_words-start.new.folio c.put.new.folio c.args.at c.put_words-start.result c.put.result
    (word 3 ++ (word 8 ++ word c.args.place)) (high_first c.args.n) c.requires.size c.put_words-start.ensures.put
    (puts_same c.put_words-start.new.folio c.put.new.folio c.put_words-start.result c.put.result c.to_be_bytes.result (high_first c.args.n) c.put.ensures.put c.to_be_bytes.ensures)
