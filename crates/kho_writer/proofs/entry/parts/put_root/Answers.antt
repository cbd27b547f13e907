use Rattle.std.proofs.Common.{[], ◌++◌, ap}
use Rattle.std.specs.List.{flat_map}
use Rattle.fdt_blob.specs.Tokens.{begin_node, token_bytes}
use Rattle.record_frames.specs.Rules.{version_1}
use Rattle.kho_laws.specs.Tree.{area_bytes, high_first}
use Rattle.kho_writer.specs.Layout.{valued}
use Rattle.kho_writer.proofs.Steps.{then_puts, puts_same}
use Rattle.kho_writer.proofs.entry.parts.put_root.Goals as goal

pub returns-clause-put : goal.returns-clause-put
returns-clause-put c =
    let areas = valued 32 (flat_map area_bytes c.args.areas.now) in
    let chunk = valued 11 (high_first c.args.chunk.0) in
    let version = valued 0 version_1.root in
    let last = c.put_scratch.new.folio in
    let n = c.put_scratch.result in
    then_puts c.args.folio.now c.put_begin-version.new.folio last c.args.at c.put_begin-version.result n (token_bytes (begin_node [])) (version ++ (chunk ++ areas))
    c.requires.size c.put_begin-version.ensures.put
    (then_puts c.put_begin-version.new.folio c.put_property-map.new.folio last c.put_begin-version.result c.put_property-map.result n version (chunk ++ areas)
    c.put_begin-version.ensures.put.size c.put_property-map.ensures.put
    (then_puts c.put_property-map.new.folio c.put_number-scratch.new.folio last c.put_property-map.result c.put_number-scratch.result n chunk areas
    c.put_property-map.ensures.put.size
    (puts_same c.put_property-map.new.folio c.put_number-scratch.new.folio c.put_property-map.result c.put_number-scratch.result (valued 11 (high_first c.from.result)) chunk
    c.put_number-scratch.ensures.put (ap (λ m. valued 11 (high_first m)) c.from.ensures))
    c.put_scratch.ensures.put))
