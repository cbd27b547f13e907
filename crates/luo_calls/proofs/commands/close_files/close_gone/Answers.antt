use Rattle.luo_calls.proofs.ClosedParts.{same_given_goes, same_given_sticks, after_give, after_unmark, gone_goes}
use Rattle.luo_calls.proofs.Sticking.{sticks_more}
use Rattle.luo_calls.specs.Closing.{deeds, given_back, unmarked}
use Rattle.ho_world.specs.Logs.{deed_at}
use Rattle.ho_events.specs.declared.reply.Reply.TheVariants.{Ok}
use Rattle.ho_events.specs.declared.event.Event.TheVariants.{RegFreeFile}
use Rattle.ho_base.specs.Objects.{registry_no}
use Rattle.std.proofs.Common.{[], ◌∷◌, ◌++◌, sym}
use Rattle.std.proofs.lemmas.Result.{err_from_is_err_and}
use Rattle.luo_calls.proofs.Chains.{ready_after, then_goes}
use Rattle.luo_calls.proofs.Nested.{sticks_first, sticks_next}
use Rattle.luo_calls.proofs.commands.close_files.close_gone.Goals as goal

pub returns-in_err-unmark_any-clause-sticks : goal.returns-in_err-unmark_any-clause-sticks
returns-in_err-unmark_any-clause-sticks g c =
    let p = err_from_is_err_and c.from_residual.result c.from_residual.ensures.1 in rw (p.1, p.2)
    (sticks_first (deeds (unmarked c.args.order c.args.runs.now) ++ (deeds (given_back c.args.order c.args.runs.now) ++ deed_at registry_no [] (RegFreeFile c.args.file) Ok ∷ [])) (sym (after_unmark c.args.file c.args.order c.args.runs.now)) _ _ _ _ _ c.in_err-unmark_any.ensures.same_at (sticks_more _ (deeds (unmarked c.args.order c.args.runs.now)) _ _ _ _ c.in_err-unmark_any.ensures.sticks))

pub give_any-requires-clause-ready : goal.give_any-requires-clause-ready
give_any-requires-clause-ready g c = ready_after _ _ _ _ _ c.requires.ready c.in_ok-unmark_any.ensures.goes

pub free_file-requires-clause-ready : goal.free_file-requires-clause-ready
free_file-requires-clause-ready g c =
    ready_after _ _ _ _ _ (ready_after _ _ _ _ _ c.requires.ready c.in_ok-unmark_any.ensures.goes) c.in_ok-give_any.ensures.goes

pub returns-in_err-free_file-clause-sticks : goal.returns-in_err-free_file-clause-sticks
returns-in_err-free_file-clause-sticks g c =
    let p = err_from_is_err_and c.from_residual-in_err-free_file.result c.from_residual-in_err-free_file.ensures.1 in rw (p.1, p.2)
    (sticks_next (deeds (unmarked c.args.order c.args.runs.now) ++ deeds (given_back c.args.order c.args.runs.now)) (deed_at registry_no [] (RegFreeFile c.args.file) Ok ∷ []) (sym (after_give c.args.file c.args.order c.args.runs.now)) _ _ _ _ _ _ _
    (then_goes _ _ _ _ _ _ _ _ c.in_ok-unmark_any.ensures.goes (same_given_goes c.args.order _ _ _ _ _ _ c.requires.given.0 c.in_ok-give_any.ensures.goes)) c.in_err-free_file.ensures.same_at c.in_err-free_file.ensures.sticks)

pub returns-clause-goes : goal.returns-clause-goes
returns-clause-goes g c =
    gone_goes c.args.file c.args.order c.args.runs.now c.args.given.now.items _ _ _ _ _ _ _ _ c.requires.given.0
    c.in_ok-unmark_any.ensures.goes c.in_ok-give_any.ensures.goes c.in_ok-free_file.ensures.goes

pub returns-in_err-give_any-clause-sticks : goal.returns-in_err-give_any-clause-sticks
returns-in_err-give_any-clause-sticks g c =
    let p = err_from_is_err_and c.from_residual-in_err-give_any.result c.from_residual-in_err-give_any.ensures.1 in rw (p.1, p.2)
    (sticks_next (deeds (unmarked c.args.order c.args.runs.now)) (deeds (given_back c.args.order c.args.runs.now) ++ deed_at registry_no [] (RegFreeFile c.args.file) Ok ∷ []) (sym (after_unmark c.args.file c.args.order c.args.runs.now)) _ _ _ _ _ _ _ c.in_ok-unmark_any.ensures.goes c.in_err-give_any.ensures.same_at
    (sticks_more _ (deeds (given_back c.args.order c.args.runs.now)) _ _ _ _ (same_given_sticks c.args.order _ _ _ _ _ _ c.requires.given.0 c.in_err-give_any.ensures.sticks)))
