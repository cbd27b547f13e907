use Rattle.std.proofs.Common.{◌∙◌, arith, refl}
use Rattle.std.proofs.lemmas.List.{length-take}
use Rattle.ho_io.proofs.source.read_all.Goals as goal

pub loop-bytes-preserved : goal.loop-bytes-preserved
loop-bytes-preserved g c = record {
  within = omega (arith, length-take c.min-room.result c.deref_mut.result.now, c.read_block.ensures.bound);
  block = c.loop-bytes.invariant.block;
  taken = c.in-More.ensures.taken refl _ c.loop-bytes.invariant.taken;
  told = c.read_block.ensures.told ∙ c.loop-bytes.invariant.told;
  counts = omega (arith, c.read_block.ensures.counts);
}
