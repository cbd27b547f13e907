use Rattle.std.proofs.Common.{◌++◌}
use Rattle.fdt_blob.specs.Tokens.{word}
use Rattle.kho_writer.proofs.Steps.{then_puts}
use Rattle.kho_writer.proofs.entry.put.put_words.Goals as goal

pub returns-clause-put : goal.returns-clause-put
returns-clause-put c =
    then_puts c.args.folio.now c.put_word-second.new.folio c.put_word.new.folio c.args.at c.put_word-second.result c.put_word.result (word c.args.a) (word c.args.b ++ word c.args.c)
    c.requires.size c.put_word-second.ensures.put
    (then_puts c.put_word-second.new.folio c.put_word-third.new.folio c.put_word.new.folio c.put_word-second.result c.put_word-third.result c.put_word.result (word c.args.b) (word c.args.c)
    c.put_word-second.ensures.put.size c.put_word-third.ensures.put c.put_word.ensures.put)
