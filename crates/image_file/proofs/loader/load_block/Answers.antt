use Rattle.std.proofs.Common.{◌<◌, ◌*◌, arith}
use Rattle.ho_base.specs.declared.limits.TheConstants.{PAGE_BYTES}
use Rattle.image_file.proofs.Loading.{less_left}
use Rattle.image_file.proofs.loader.load_block.Goals as goal

pub returns-then-count-block-clause-cut : goal.returns-then-count-block-clause-cut
returns-then-count-block-clause-cut g c =
    let few : c.in-Ok.count < c.args.many * PAGE_BYTES = omega (arith, c.if-count-block.true, c.read_full.auto.buf, c.requires.size) in
    less_left _ _ c.read_full.new.buf c.in-Ok.count (c.args.many * PAGE_BYTES) few c.in-Ok.ensures.taken (c.in-Ok.ensures.end c.if-count-block.true)
