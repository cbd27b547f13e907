use Rattle.std.proofs.Common.{arith}
use Rattle.handover_cli.proofs.ReadBack.{read_back}
use Rattle.handover_cli.proofs.rebooting.reads_back.Goals as goal

pub returns : goal.returns
returns c =
    let of = c.count-count.ensures in
    read_back c.args.frames.now c.args.entry c.law_of_images.ensures.read (omega (arith, of.value, of.at_least)) (omega (arith, of.value, of.at_most)) c.requires.home c.hold_pages.ensures (omega (arith, c.ranges.entry))
