use Rattle.kho_writer.proofs.BoundFrames.{all_four}
use Rattle.kho_writer.proofs.bounds.bound_frames.Goals as goal

pub returns : goal.returns
returns c =
    all_four c.args.bounds.now c.bound_frame.result c.bound_frame-2.result c.bound_frame-3.result c.bound_frame-4.result c.bound_frame.ensures c.bound_frame-2.ensures c.bound_frame-3.ensures
    c.bound_frame-4.ensures
