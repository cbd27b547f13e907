use Rattle.std.proofs.Common.{take}
use Rattle.luo_incoming.specs.Finishing.{HasFinished}
use Rattle.luo_incoming.proofs.commands.finish_files.finish_files.Given as goal

-- the parts of the files so far are done
abbrev pub invariant-loop-kept : goal.invariant-loop-kept
invariant-loop-kept g l = HasFinished (take l.kept-index l.files) l.fn.at l.at (g.R.Reach.shown l.fn.reach) (g.R.Reach.shown l.reach)
