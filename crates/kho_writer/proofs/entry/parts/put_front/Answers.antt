use Rattle.std.proofs.Common.{◌+◌, ◌++◌, replicate}
use Rattle.fdt_blob.specs.Tokens.{word}
use Rattle.kho_writer.proofs.Steps.{then_puts}
use Rattle.kho_writer.proofs.entry.parts.put_front.Goals as goal

pub returns-clause-put : goal.returns-clause-put
returns-clause-put c =
    let s = c.args.structure in
    let t = c.args.strings in
    let pair = replicate 16 0 in
    let w3 = word 16 ++ (word 0 ++ word t) in
    let w2 = word (56 + s) ++ (word 40 ++ word 17) in
    let w1 = word 0xd00d_feed ++ (word (56 + s + t) ++ word 56) in
    let last = c.put.new.folio in
    let n = c.put.result in
    then_puts c.args.folio.now c.put_words-fourth.new.folio last 0 c.put_words-fourth.result n w1 (w2 ++ (w3 ++ (word s ++ pair))) c.requires.size c.put_words-fourth.ensures.put
    (then_puts c.put_words-fourth.new.folio c.put_words-seventh.new.folio last c.put_words-fourth.result c.put_words-seventh.result n w2 (w3 ++ (word s ++ pair))
    c.put_words-fourth.ensures.put.size c.put_words-seventh.ensures.put
    (then_puts c.put_words-seventh.new.folio c.put_words-tenth.new.folio last c.put_words-seventh.result c.put_words-tenth.result n w3 (word s ++ pair)
    c.put_words-seventh.ensures.put.size c.put_words-tenth.ensures.put
    (then_puts c.put_words-tenth.new.folio c.put_word-pair.new.folio last c.put_words-tenth.result c.put_word-pair.result n (word s) pair
    c.put_words-tenth.ensures.put.size c.put_word-pair.ensures.put c.put.ensures.put)))
