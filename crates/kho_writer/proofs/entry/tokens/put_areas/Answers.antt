use Rattle.std.proofs.Common.{◌+◌, take, get_or, sym, ap, arith}
use Rattle.std.proofs.lemmas.List.{take_all}
use Rattle.std.specs.List.{flat_map}
use Rattle.ho_base.specs.declared.shape.Area.{Area}
use Rattle.record_frames.proofs.WrittenBytes.{one_more}
use Rattle.kho_laws.specs.Tree.{area_bytes}
use Rattle.kho_writer.proofs.Steps.{then_puts, puts_none, puts_same}
use Rattle.kho_writer.proofs.entry.tokens.put_areas.Goals as goal

abbrev no_area : Area
no_area = record { first = record { 0 = 0 }; count = 0 }

pub loop-i-init : goal.loop-i-init
loop-i-init c = record { puts = puts_none c.args.folio.now c.args.at c.requires.size (omega (arith, c.requires.room)); so_far = omega arith }

pub loop-i-preserved : goal.loop-i-preserved
loop-i-preserved c =
    let areas = c.args.areas.now in
    let area = get_or areas c.loop-i.i no_area in
    record {
      puts = puts_same c.args.folio.now c.put_area-end.new.folio c.args.at c.put_area-end.result _ (flat_map area_bytes (take (c.loop-i.i + 1) areas))
          (then_puts c.args.folio.now c.loop-i.folio c.put_area-end.new.folio c.args.at c.loop-i.end c.put_area-end.result (flat_map area_bytes (take c.loop-i.i areas)) (area_bytes area)
          c.requires.size c.loop-i.invariant.puts c.put_area-end.ensures.put)
          (sym (one_more area_bytes areas c.loop-i.i no_area c.loop-i-test.true));
      so_far = omega (arith, c.loop-i.invariant.so_far, c.put_area-end.ensures.end);
    }

pub returns-clause-put : goal.returns-clause-put
returns-clause-put c =
    puts_same c.args.folio.now c.loop-i.folio c.args.at c.loop-i.end (flat_map area_bytes (take c.loop-i.i c.args.areas.now)) (flat_map area_bytes c.args.areas.now) c.loop-i.invariant.puts
    (ap (flat_map area_bytes) (take_all c.loop-i.i c.args.areas.now (omega (arith, c.loop-i-test.false, c.loop-i.auto.i-end))))
