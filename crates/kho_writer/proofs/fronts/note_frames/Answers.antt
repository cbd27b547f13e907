use Rattle.std.proofs.Common.{◌∙◌}
use Rattle.std.proofs.lemmas.List.{length-set}
use Rattle.kho_writer.proofs.FolioPages.{noted_more, noted_all}
use Rattle.kho_writer.proofs.fronts.note_frames.Goals as goal

pub loop-i-preserved : goal.loop-i-preserved
loop-i-preserved c = record {
  size = length-set c.loop-i.numbers.items c.loop-i.i c.first.result ∙ c.loop-i.invariant.size;
  noted = noted_more c.args.folios.now c.loop-i.numbers.items c.loop-i.i c.index-folios-i.result c.first.result c.loop-i-test.true c.loop-i.invariant.size c.index-folios-i.is
      c.first.ensures.value c.loop-i.invariant.noted;
}

pub returns : goal.returns
returns c = noted_all c.args.folios.now c.loop-i.numbers.items c.loop-i.i c.loop-i-test.false c.loop-i.invariant.size c.loop-i.invariant.noted
