use Rattle.std.proofs.lemmas.Result.{err_from_is_err_and}
use Rattle.fdt_blob.specs.Writing.{texts}
use Rattle.fdt_blob.proofs.WriteLemmas.{properties_part}
use Rattle.fdt_blob.proofs.writer.put_properties.Goals as goal

pub returns-in_err-put_property : goal.returns-in_err-put_property
returns-in_err-put_property c =
    let p = err_from_is_err_and c.from_residual.result c.from_residual.ensures.1 in
    rw (p.1, p.2)
    (properties_part (texts c.args.names.now) c.args.props.now c.loop-prop.prop-index c.prop-item.result c.args.out.now.items
    c.loop-prop.out.items c.put_property.new.out.items c.put_property.new.out.items c.in_err-put_property.field-0.0
    c.loop-prop-test.true c.prop-item.is c.loop-prop.invariant c.in_err-put_property.ensures)
