use Rattle.std.proofs.Common.{◌++◌, ap}
use Rattle.fdt_blob.specs.Tokens.{begin_node, token_bytes}
use Rattle.record_frames.specs.Rules.{version_1}
use Rattle.record_frames.specs.Handover.{LUO}
use Rattle.kho_laws.specs.Tree.{high_first}
use Rattle.kho_writer.specs.Layout.{valued}
use Rattle.kho_writer.proofs.Steps.{then_puts, puts_same}
use Rattle.kho_writer.proofs.entry.parts.put_luo.Goals as goal

pub returns-clause-put : goal.returns-clause-put
returns-clause-put c =
    let header = valued 58 (high_first c.args.header.0) in
    let number = valued 40 (high_first c.args.number) in
    let version = valued 0 version_1.luo in
    let last = c.put_number.new.folio in
    let n = c.put_number.result in
    then_puts c.args.folio.now c.put_begin-version.new.folio last c.args.at c.put_begin-version.result n (token_bytes (begin_node LUO)) (version ++ (number ++ header))
    c.requires.size c.put_begin-version.ensures.put
    (then_puts c.put_begin-version.new.folio c.put_property-update.new.folio last c.put_begin-version.result c.put_property-update.result n version (number ++ header)
    c.put_begin-version.ensures.put.size c.put_property-update.ensures.put
    (then_puts c.put_property-update.new.folio c.put_number-session.new.folio last c.put_property-update.result c.put_number-session.result n number header
    c.put_property-update.ensures.put.size
    (puts_same c.put_property-update.new.folio c.put_number-session.new.folio c.put_property-update.result c.put_number-session.result (valued 40 (high_first c.from.result)) number
    c.put_number-session.ensures.put (ap (λ m. valued 40 (high_first m)) c.from.ensures))
    (puts_same c.put_number-session.new.folio last c.put_number-session.result n (valued 58 (high_first c.from-2.result)) header
    c.put_number.ensures.put (ap (λ m. valued 58 (high_first m)) c.from-2.ensures))))
