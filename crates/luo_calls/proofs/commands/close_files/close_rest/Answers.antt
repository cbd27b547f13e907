use Rattle.luo_calls.specs.Closing.{after_unpin, deeds, unmarked}
use Rattle.ho_events.specs.declared.reply.Reply.{Reply}
use Rattle.std.proofs.Common.{◌≡◌, List, ap, sym, ◌∙◌}
use Rattle.ho_base.specs.declared.numbers.Pfn.{Pfn}
use Rattle.luo_calls.proofs.Closes.{stuck_at_once}
use Rattle.luo_calls.proofs.commands.close_files.close_rest.Goals as goal

pub returns-in-KeptRuns-clause-sticks : goal.returns-in-KeptRuns-clause-sticks
returns-in-KeptRuns-clause-sticks g c =
    stuck_at_once (λ ds. ds ≡ deeds (after_unpin c.args.file c.args.order c.args.reply)) (deeds (unmarked c.args.order c.as_slice.result.now))
    (ap (λ (runs : List Pfn). deeds (unmarked c.args.order runs)) c.as_slice.ensures ∙ ap (λ (r : Reply). deeds (after_unpin c.args.file c.args.order r)) (sym c.in-KeptRuns.is)) _ _ _ _ c.unmark_any.result c.unmark_any.ensures.same_at c.unmark_any.ensures.sticks
