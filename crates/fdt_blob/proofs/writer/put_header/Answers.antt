use Rattle.fdt_blob.specs.Spelling.{header_of}
use Rattle.fdt_blob.proofs.WriteLemmas.{puts_rest, four_steps}
use Rattle.fdt_blob.proofs.writer.put_header.Goals as goal

pub returns : goal.returns
returns c =
    puts_rest c.args.out.now.items (header_of c.args.structure c.args.strings) c.put_words-3.new.out.items _ c.put_word.new.out.items c.put_word.result
    (four_steps c.args.out.now.items c.put_words.new.out.items c.put_words-2.new.out.items c.put_words-3.new.out.items _ _ _ _
    c.in_ok-put_words.ensures c.in_ok-put_words-2.ensures c.in_ok-put_words-3.ensures)
    c.put_word.ensures.put
