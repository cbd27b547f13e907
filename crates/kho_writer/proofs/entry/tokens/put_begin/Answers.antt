use Rattle.fdt_blob.specs.Tokens.{word, padded}
use Rattle.kho_writer.proofs.Steps.{then_puts}
use Rattle.kho_writer.proofs.entry.tokens.put_begin.Goals as goal

pub returns-clause-put : goal.returns-clause-put
returns-clause-put c =
    then_puts c.args.folio.now c.put_word-name.new.folio c.put_padded.new.folio c.args.at c.put_word-name.result c.put_padded.result (word 1) (padded c.args.text.now)
    c.requires.size c.put_word-name.ensures.put c.put_padded.ensures.put
