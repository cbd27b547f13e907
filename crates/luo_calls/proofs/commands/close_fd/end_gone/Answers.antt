use Rattle.std.proofs.Common.{[], ◌∷◌, ◌++◌, sym}
use Rattle.std.proofs.lemmas.Result.{err_from_is_err_and}
use Rattle.luo_calls.proofs.Chains.{ready_after, then_goes}
use Rattle.luo_calls.proofs.ClosedParts.{same_given_goes, same_given_sticks}
use Rattle.luo_calls.proofs.CloseFds.{freed, gone_deeds, gone_deeds_end, gone_ends}
use Rattle.luo_calls.proofs.Nested.{sticks_first, sticks_next}
use Rattle.luo_calls.proofs.Sticking.{sticks_more}
use Rattle.luo_calls.specs.Closing.{deeds, given_back}
use Rattle.ho_events.specs.declared.reply.Reply.TheVariants.{Ok}
use Rattle.ho_world.specs.Logs.{end_with}
use Rattle.luo_calls.proofs.commands.close_fd.end_gone.Goals as goal

pub returns-in_err-give_any-clause-sticks : goal.returns-in_err-give_any-clause-sticks
returns-in_err-give_any-clause-sticks g c =
    let p = err_from_is_err_and c.from_residual.result c.from_residual.ensures.1 in rw (p.1, p.2)
    (sticks_first (deeds (given_back c.args.order c.args.runs.now) ++ (freed c.args.file ++ end_with Ok ∷ [])) (sym (gone_deeds c.args.file c.args.order c.args.runs.now)) _ _ _ _ _ c.in_err-give_any.ensures.same_at (sticks_more _ (deeds (given_back c.args.order c.args.runs.now)) _ _ _ _ (same_given_sticks c.args.order _ _ _ _ _ _ c.requires.given.0 c.in_err-give_any.ensures.sticks)))

pub free_file-requires-clause-ready : goal.free_file-requires-clause-ready
free_file-requires-clause-ready g c = ready_after _ _ _ _ _ c.requires.ready c.in_ok-give_any.ensures.goes

pub end_command-requires : goal.end_command-requires
end_command-requires g c = record {
  ready = ready_after _ _ _ _ _ (ready_after _ _ _ _ _ c.requires.ready c.in_ok-give_any.ensures.goes) c.in_ok-free_file.ensures.goes;
}

pub returns-in_err-end_command-clause-sticks : goal.returns-in_err-end_command-clause-sticks
returns-in_err-end_command-clause-sticks g c =
    let p = err_from_is_err_and c.from_residual-in_err-end_command.result c.from_residual-in_err-end_command.ensures.1 in rw (p.1, p.2)
    (sticks_next (deeds (given_back c.args.order c.args.runs.now) ++ freed c.args.file) (end_with Ok ∷ []) (gone_deeds_end c.args.file c.args.order c.args.runs.now) _ _ _ _ _ _ _ (then_goes _ _ _ _ _ _ _ _ (same_given_goes c.args.order _ _ _ _ _ _ c.requires.given.0 c.in_ok-give_any.ensures.goes) c.in_ok-free_file.ensures.goes) c.in_err-end_command.ensures.same_at c.in_err-end_command.ensures.sticks)

pub returns-clause-goes : goal.returns-clause-goes
returns-clause-goes g c =
    gone_ends c.args.file c.args.order c.args.runs.now _ _ _ _ _ _ _ _ (same_given_goes c.args.order _ _ _ _ _ _ c.requires.given.0 c.in_ok-give_any.ensures.goes) c.in_ok-free_file.ensures.goes c.in_ok-end_command.ensures.goes

pub returns-in_err-free_file-clause-sticks : goal.returns-in_err-free_file-clause-sticks
returns-in_err-free_file-clause-sticks g c =
    let p = err_from_is_err_and c.from_residual-in_err-free_file.result c.from_residual-in_err-free_file.ensures.1 in rw (p.1, p.2)
    (sticks_next (deeds (given_back c.args.order c.args.runs.now)) (freed c.args.file ++ end_with Ok ∷ []) (sym (gone_deeds c.args.file c.args.order c.args.runs.now)) _ _ _ _ _ _ _ (same_given_goes c.args.order _ _ _ _ _ _ c.requires.given.0 c.in_ok-give_any.ensures.goes) c.in_err-free_file.ensures.same_at c.in_err-free_file.ensures.sticks)
