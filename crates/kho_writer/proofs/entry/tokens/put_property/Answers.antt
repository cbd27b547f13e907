use Rattle.std.proofs.Common.{◌++◌, length}
use Rattle.fdt_blob.specs.Tokens.{word, padded}
use Rattle.kho_writer.proofs.Steps.{then_puts}
use Rattle.kho_writer.proofs.entry.tokens.put_property.Goals as goal

pub returns-clause-put : goal.returns-clause-put
returns-clause-put c =
    then_puts c.args.folio.now c.put_words-start.new.folio c.put_padded.new.folio c.args.at c.put_words-start.result c.put_padded.result
    (word 3 ++ (word (length c.args.value.now) ++ word c.args.place)) (padded c.args.value.now) c.requires.size c.put_words-start.ensures.put c.put_padded.ensures.put
