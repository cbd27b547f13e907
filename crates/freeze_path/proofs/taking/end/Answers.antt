use Rattle.std.proofs.Common.{refl}
use Rattle.luo_calls.proofs.Ends as ends
use Rattle.freeze_path.proofs.taking.end.Goals as goal

pub returns : goal.returns
returns g c = ends.goes_own c.args.at.now (g.R.Reach.shown c.args.reach.now) (g.R.Reach.shown c.args.reach.now) refl c.args.reply _ c.requires.early c.own.ensures
