use Rattle.freeze_path.proofs.TakeSteps.{only_room, after_room}
use Rattle.freeze_path.proofs.taking.end_first.Goals as goal

pub returns-in-Err : goal.returns-in-Err
returns-in-Err g c = only_room c.args.at (g.R.Reach.shown c.args.reach.now) (g.R.Reach.shown c.room.new.self) c.room.ensures.kept

pub returns : goal.returns
returns g c = (_, after_room _ _ _ (g.R.Reach.shown c.args.reach.now) (g.R.Reach.shown c.room.new.self) _ c.room.ensures.kept c.end.ensures)
