-- A boot is never refused for what an ended kernel left: the frames carry a state, its shape is the machine's, and its
-- files are all memfds.
use Rattle.std.proofs.Common.{subst}
use Rattle.kexec_boot.specs.Refused.{IsBootRefusal}
use Rattle.handover_cli.proofs.NextKernels.{memfd_test}
use Rattle.handover_cli.proofs.rebooting.boot_next.Goals as goal

pub unreachable-requires : goal.unreachable-requires
unreachable-requires c =
    let can = c.requires.can in
    (subst (IsBootRefusal c.args.ended.handoff c.args.ended.blob) c.in-BadImage.is c.in-Err.ensures.refused).1 can.state can.carries can.shape

pub unreachable-requires-in-Unbuilt : goal.unreachable-requires-in-Unbuilt
unreachable-requires-in-Unbuilt c =
    let can = c.requires.can in
    (subst (IsBootRefusal c.args.ended.handoff c.args.ended.blob) c.in-Unbuilt.is c.in-Err.ensures.refused) can.state can.carries (memfd_test can.state can.memfds)
