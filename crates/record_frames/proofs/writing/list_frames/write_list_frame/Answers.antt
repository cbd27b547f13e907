use Rattle.std.proofs.Common.{length, sym, ◌∙◌, arith}
use Rattle.std.proofs.lemmas.List.{length-map, get_or-map}
use Rattle.ho_base.specs.declared.numbers.Pfn.{Pfn}
use Rattle.ho_events.specs.Lists.{firsts}
use Rattle.record_frames.proofs.WrittenSheets.{list_size, list_more, list_done}
use Rattle.record_frames.proofs.writing.list_frames.write_list_frame.Goals as goal

pub put_numbers-requires-clause-size : goal.put_numbers-requires-clause-size
put_numbers-requires-clause-size c =
    let same = length-map c.args.runs.now (λ (p : Pfn). p.0) in
    list_size c.args.folio.now c.loop-i.folio c.args.next (length c.args.runs.now) (firsts c.args.runs.now) c.loop-i.i (omega (arith, same, c.loop-i-test.true)) (omega (arith, same, c.requires.few)) c.loop-i.invariant

pub loop-i-preserved : goal.loop-i-preserved
loop-i-preserved c =
    let same = length-map c.args.runs.now (λ (p : Pfn). p.0) in
    list_more c.args.folio.now c.loop-i.folio c.put_numbers.new.folio c.args.next (length c.args.runs.now) (firsts c.args.runs.now) c.loop-i.i c.from.result
    (omega (arith, same, c.loop-i-test.true)) (omega (arith, same, c.requires.few))
    (c.from.ensures ∙ sym (get_or-map (λ (p : Pfn). p.0) c.args.runs.now c.loop-i.i (record { 0 = 0 }) 0 c.loop-i-test.true)) c.loop-i.invariant c.put_numbers.ensures

pub returns : goal.returns
returns c =
    let same = length-map c.args.runs.now (λ (p : Pfn). p.0) in
    list_done c.args.folio.now c.loop-i.folio c.args.next (length c.args.runs.now) (firsts c.args.runs.now) c.loop-i.i (sym same) (omega (arith, same, c.loop-i-test.false)) c.loop-i.invariant
