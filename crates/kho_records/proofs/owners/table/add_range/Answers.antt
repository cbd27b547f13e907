use Rattle.std.proofs.Common.{ap, set, arith}
use Rattle.kho_records.proofs.Tables.{fill_none, fill_more, fill_all}
use Rattle.kho_records.specs.declared.owners.owner.Owner.{Owner}
use Rattle.kho_records.proofs.owners.table.add_range.Goals as goal

pub loop-p-init : goal.loop-p-init
loop-p-init c = fill_none c.args.first c.min-start.result c.args.more c.args.owners.now (omega (arith, c.min-start.ensures))

pub loop-p-preserved : goal.loop-p-preserved
loop-p-preserved c =
    fill_more c.args.first c.loop-p.p c.args.more c.args.owners.now c.loop-p.owners _ c.loop-p.invariant
    (omega (arith, c.loop-p-test.true, c.loop-p.auto.p, c.min-start.ensures, c.min.ensures, c.min-2.ensures, c.max-stop.ensures))
    (omega (arith, c.loop-p-test.true, c.loop-p.auto.p, c.min-start.ensures, c.min.ensures, c.min-2.ensures, c.max-stop.ensures))
    (ap (λ (o : Owner). set c.loop-p.owners c.loop-p.p o) c.join.ensures)

pub returns : goal.returns
returns c =
    fill_all c.args.first c.args.end c.loop-p.p c.args.more c.args.owners.now c.loop-p.owners c.loop-p.invariant
    (omega (arith, c.loop-p-test.false, c.loop-p.auto.p, c.loop-p.auto.p-end, c.min-start.ensures, c.min.ensures, c.min-2.ensures, c.max-stop.ensures))
