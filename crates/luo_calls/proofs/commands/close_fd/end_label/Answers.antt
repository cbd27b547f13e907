use Rattle.std.proofs.Common.{◌≡◌, [], ◌∷◌, ◌++◌, ap, sym}
use Rattle.ho_events.specs.declared.reply.Reply.{Reply}
use Rattle.ho_events.specs.declared.reply.Reply.TheVariants.{Ok}
use Rattle.ho_world.specs.Logs.{end_with}
use Rattle.luo_calls.specs.Closing.{deeds}
use Rattle.luo_calls.specs.ClosingFds.{after_close_fd}
use Rattle.luo_calls.proofs.Closes.{stuck_at_once}
use Rattle.luo_calls.proofs.commands.close_fd.end_label.Goals as goal

pub returns-in-Kept-clause-sticks : goal.returns-in-Kept-clause-sticks
returns-in-Kept-clause-sticks g c =
    stuck_at_once (λ ds. ds ≡ deeds (after_close_fd c.args.file c.args.order c.args.reply) ++ end_with Ok ∷ []) (end_with Ok ∷ [])
    (ap (λ (r : Reply). deeds (after_close_fd c.args.file c.args.order r) ++ end_with Ok ∷ []) (sym c.in-Kept.is)) _ _ _ _ c.end_command.result c.end_command.ensures.same_at c.end_command.ensures.sticks
