use Rattle.std.proofs.Common.{arith}
use Rattle.std.proofs.lemmas.Grind.{common_steps}
use Rattle.kho_writer.proofs.MarkSteps.{marks_own, sessions_keep}
use Rattle.kho_writer.proofs.marks.tracker_of.Goals as goal

pub returns : goal.returns
returns c = marks_own c.args.carried.now c.mark_sessions.new.tracker c.requires.bounds (grind (arith, common_steps))
