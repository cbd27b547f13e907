use Rattle.std.proofs.Common.{subst, sym}
use Rattle.freeze_path.specs.Ready.{TookFrames}
use Rattle.freeze_path.proofs.TakeSteps.{both, ready_taken}
use Rattle.freeze_path.proofs.taking.take_frames.Goals as goal

pub finish-requires-clause-ready : goal.finish-requires-clause-ready
finish-requires-clause-ready g c = ready_taken _ _ _ _ _ _ c.requires.ready c.in-Ok.ensures.got

pub returns-in-Ok-clause-took : goal.returns-in-Ok-clause-took
returns-in-Ok-clause-took g c =
    subst (TookFrames c.args.count c.args.at (g.R.Reach.shown c.args.reach.now) _) (sym c.finish.ensures.took) (both _ _ _ _ _ _ _ _ c.in-Ok.ensures.got c.finish.ensures.goes)
