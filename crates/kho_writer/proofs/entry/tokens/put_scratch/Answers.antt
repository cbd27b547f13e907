use Rattle.std.proofs.Common.{◌*◌, ◌++◌, length}
use Rattle.std.specs.List.{flat_map}
use Rattle.fdt_blob.specs.Tokens.{word}
use Rattle.kho_laws.specs.Tree.{area_bytes}
use Rattle.kho_writer.specs.Layout.{valued}
use Rattle.kho_writer.proofs.Areas.{scratch_is}
use Rattle.kho_writer.proofs.Steps.{then_puts, puts_same}
use Rattle.kho_writer.proofs.entry.tokens.put_scratch.Goals as goal

pub returns-clause-put : goal.returns-clause-put
returns-clause-put c =
    let value = flat_map area_bytes c.args.areas.now in
    let front = word 3 ++ (word (16 * length c.args.areas.now) ++ word c.args.place) in
    puts_same c.args.folio.now c.put_areas.new.folio c.args.at c.put_areas.result (front ++ value) (valued c.args.place value)
    (then_puts c.args.folio.now c.put_words-start.new.folio c.put_areas.new.folio c.args.at c.put_words-start.result c.put_areas.result front value
    c.requires.size c.put_words-start.ensures.put c.put_areas.ensures.put)
    (scratch_is c.args.place c.args.areas.now)
