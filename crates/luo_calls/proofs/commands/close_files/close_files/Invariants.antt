use Rattle.std.proofs.Common.{take}
use Rattle.luo_calls.specs.Closing.{HasClosed}
use Rattle.luo_calls.proofs.commands.close_files.close_files.Given as goal

-- the parts of the files so far are done
abbrev pub invariant-loop-kept : goal.invariant-loop-kept
invariant-loop-kept g l = HasClosed (take l.kept-index l.files) l.fn.at l.at (g.R.Reach.shown l.fn.reach) (g.R.Reach.shown l.reach)
