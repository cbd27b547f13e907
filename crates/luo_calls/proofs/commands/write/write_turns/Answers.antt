use Rattle.ho_events.specs.declared.reply.Reply.TheVariants.{BadFd}
use Rattle.luo_calls.proofs.Sticking.{sticks_as}
use Rattle.luo_calls.specs.Wrote.{write_deeds, answer_of}
use Rattle.ho_world.specs.Logs.{Deed, deed_at, end_with}
use Rattle.ho_world.specs.Sequences.{command_acts}
use Rattle.luo_calls.specs.Puts.{put_command, put_event, put_len}
use Rattle.std.proofs.lemmas.Result.{err_from_is_err_and}
use Rattle.std.proofs.Common.{[], ◌∷◌, sym, subst}
use Rattle.luo_calls.specs.declared.stuck.Stuck.{Stuck}
use Rattle.luo_calls.specs.Doing.{AreWhole, SticksAfter}
use Rattle.luo_calls.proofs.Chains.{ready_after}
use Rattle.luo_calls.proofs.Nested as nested
use Rattle.luo_calls.proofs.WriteCommands as writes
use Rattle.luo_calls.proofs.commands.write.write_turns.Goals as goal

pub returns-in-Ok-clause-comes : goal.returns-in-Ok-clause-comes
returns-in-Ok-clause-comes g c =
    writes.no_file c.args.labels.now.bound c.args.label c.args.off c.args.put c.in_default.ensures.found _ _ _ _ c.in-Ok.ensures.goes

pub returns-in-Err-clause-stopped : goal.returns-in-Err-clause-stopped
returns-in-Err-clause-stopped g c =
    subst (λ (s : Stuck). SticksAfter (AreWhole (command_acts c.args.labels.now.bound (put_command c.args.label c.args.off c.args.put))) s c.args.at.now c.end_command.new.at (g.R.Reach.shown c.args.reach.now) (g.R.Reach.shown c.end_command.new.reach)) (sym c.empty_handed.ensures.stuck)
    (nested.sticks_first (end_with BadFd ∷ []) (writes.no_file_whole c.args.labels.now.bound c.args.label c.args.off c.args.put c.in_default.ensures.found) _ _ _ _ _ c.in-Err.ensures.same_at c.in-Err.ensures.sticks)

pub end_command-requires-2 : goal.end_command-requires-2
end_command-requires-2 g c = record { ready = ready_after _ _ _ _ _ c.requires.ready c.in_ok-wrote.ensures.goes }

pub returns-in-Ok-end_command-clause-comes : goal.returns-in-Ok-end_command-clause-comes
returns-in-Ok-end_command-clause-comes g c =
    writes.answered c.args.labels.now.bound c.args.label c.args.off c.args.put c.in-Some.file c.in-Some.ensures.found _ _ _ _ _ _
    c.in_ok-wrote.wrote _ _ c.reply_of.ensures c.reply_of-in-Ok-end_command.ensures c.in_ok-wrote.ensures.told c.in_ok-wrote.ensures.goes c.in-Ok-end_command.ensures.goes

pub returns-in_err-wrote-clause-stopped : goal.returns-in_err-wrote-clause-stopped
returns-in_err-wrote-clause-stopped g c =
    let p = err_from_is_err_and c.from_residual.result c.from_residual.ensures.1 in rw (p.1, p.2)
    (sticks_as (writes.of_file c.args.labels.now.bound c.args.label c.args.off c.args.put c.in-Some.file c.in-Some.ensures.found) _ _ _ _ _ c.in_err-wrote.ensures.stopped)

pub returns-clause-stopped : goal.returns-clause-stopped
returns-clause-stopped g c =
    subst (λ (s : Stuck). SticksAfter (AreWhole (command_acts c.args.labels.now.bound (put_command c.args.label c.args.off c.args.put))) s c.args.at.now c.end_command-2.new.at (g.R.Reach.shown c.args.reach.now) (g.R.Reach.shown c.end_command-2.new.reach)) (sym c.empty_handed-in-Err-end_command.ensures.stuck)
    (nested.sticks_next (write_deeds c.in-Some.file (put_event c.args.put c.args.off) c.in_ok-wrote.wrote) (end_with (answer_of c.in_ok-wrote.wrote) ∷ [])
    (writes.of_file c.args.labels.now.bound c.args.label c.args.off c.args.put c.in-Some.file c.in-Some.ensures.found _ (writes.wrote_whole c.in-Some.file c.args.off (put_len c.args.put) (put_event c.args.put c.args.off) c.in_ok-wrote.wrote c.in_ok-wrote.ensures.told))
    _ _ _ _ _ _ _ c.in_ok-wrote.ensures.goes c.in-Err-end_command.ensures.same_at c.in-Err-end_command.ensures.sticks)
