use Rattle.ho_events.specs.declared.reply.Reply.{Reply}
use Rattle.std.proofs.Common.{sym, subst}
use Rattle.machine_core.specs.Turns.{Goes}
use Rattle.luo_calls.specs.Closing.{deeds}
use Rattle.luo_calls.proofs.Nested.{goes_nowhere}
use Rattle.luo_incoming.specs.Finishing.{after_finish}
use Rattle.luo_incoming.proofs.commands.finish_files.finish_rest.Goals as goal

pub returns-in-Kept-clause-goes : goal.returns-in-Kept-clause-goes
returns-in-Kept-clause-goes g c =
    subst (λ (r : Reply). Goes (deeds (after_finish c.args.file c.args.order r)) c.args.at.now c.args.at.now (g.R.Reach.shown c.args.reach.now) (g.R.Reach.shown c.args.reach.now)) (sym c.in-Kept.is)
    (goes_nowhere c.args.at.now (g.R.Reach.shown c.args.reach.now))
