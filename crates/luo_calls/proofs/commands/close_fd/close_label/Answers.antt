use Rattle.std.proofs.Common.{[], ◌∷◌}
use Rattle.ho_base.specs.Objects.{file_no}
use Rattle.ho_events.specs.declared.event.Event.TheVariants.{FileCloseFd}
use Rattle.ho_world.specs.Logs.{deed_at}
use Rattle.luo_calls.specs.ClosingFds.{read_of}
use Rattle.luo_calls.proofs.Chains.{ready_after}
use Rattle.luo_calls.proofs.CloseFds.{closes, closing_whole, kept_deeds, kept_whole}
use Rattle.luo_calls.proofs.Nested.{sticks_first, sticks_later}
use Rattle.luo_calls.proofs.commands.close_fd.close_label.Goals as goal

pub returns-in-Err-clause-stopped : goal.returns-in-Err-clause-stopped
returns-in-Err-clause-stopped g c = sticks_first (kept_deeds c.args.file) (kept_whole c.args.file) _ _ _ _ _ c.in-Err.ensures.same_at c.in-Err.ensures.sticks

pub end_label-requires-clause-ready : goal.end_label-requires-clause-ready
end_label-requires-clause-ready g c = ready_after _ _ _ _ _ c.requires.ready c.in-Ok.ensures.goes

pub returns-in-Ok-end_label-clause-closes : goal.returns-in-Ok-end_label-clause-closes
returns-in-Ok-end_label-clause-closes g c =
    closes c.args.file c.in-Ok.closed.0 c.in-Ok.closed.1 _ _ _ _ _ _ c.in-Ok.ensures.reply c.in-Ok.ensures.goes c.in-Ok-end_label.ensures.goes

pub returns-in-Err-end_label-clause-stopped : goal.returns-in-Err-end_label-clause-stopped
returns-in-Err-end_label-clause-stopped g c =
    sticks_later (deed_at (file_no c.args.file.0) (read_of c.args.file c.in-Ok.closed.0 c.in-Ok.closed.1) FileCloseFd c.in-Ok.closed.1 ∷ []) (closing_whole c.args.file c.in-Ok.closed.0 c.in-Ok.closed.1 c.in-Ok.ensures.reply) _ _ _ _ _ _ _ c.in-Ok.ensures.goes c.in-Err-end_label.ensures.sticks
