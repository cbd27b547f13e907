use Rattle.frame_tests.proofs.Single.{taken_below}
use Rattle.frame_tests.proofs.buddies.take_frames.Goals as goal

pub mark_taken-requires : goal.mark_taken-requires
mark_taken-requires c =
    taken_below c.args.buddy.now c.args.free.now.items c.args.out.now.items c.take.new.out.items c.as_slice.result.now c.requires.same c.requires.empty c.as_slice.ensures.value
    c.if-not-take.ensures.free
