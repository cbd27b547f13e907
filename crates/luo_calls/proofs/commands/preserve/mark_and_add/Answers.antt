use Rattle.luo_calls.proofs.Sticking.{sticks_more}
use Rattle.luo_calls.specs.Preserved.{added, marked}
use Rattle.ho_base.specs.declared.numbers.Pfn.{Pfn}
use Rattle.std.proofs.Common.{List, ◌++◌, refl, sym, subst}
use Rattle.std.proofs.lemmas.Result.{err_from_is_err_and}
use Rattle.std.specs.Prelude.{None}
use Rattle.ho_base.specs.Objects.{session_no}
use Rattle.ho_events.specs.declared.reply.Reply.TheVariants.{Ok}
use Rattle.luo_calls.specs.declared.stuck.Stuck.{Stuck}
use Rattle.luo_calls.specs.Opened.{without}
use Rattle.luo_calls.specs.Stuck.{Sticks, turn_of}
use Rattle.luo_calls.proofs.Chains.{ready_after, then_goes}
use Rattle.luo_calls.proofs.Nested as nested
use Rattle.luo_calls.proofs.Preserves.{admitted_answer, replied, same_runs}
use Rattle.luo_calls.proofs.commands.preserve.mark_and_add.Goals as goal

pub returns-in-Err-clause-sticks : goal.returns-in-Err-clause-sticks
returns-in-Err-clause-sticks g c =
    let a = g.R.Reach.shown c.args.reach.now in let n = session_no c.args.slot.0 in
    nested.sticks_first (marked c.args.order c.args.runs.now ++ added c.args.slot c.args.name c.args.token c.args.file Ok) refl c.args.at.now _ _ (without n a) _ c.in-Err.ensures.same_at
    (sticks_more _ (marked c.args.order c.args.runs.now) (added c.args.slot c.args.name c.args.token c.args.file Ok) _ _ _
    (subst (λ (s : Stuck). Sticks c.args.at.now (turn_of (marked c.args.order c.args.runs.now)) s (without n a) (g.R.Reach.shown c.under.new.reach)) (sym c.under.ensures.stuck)
    (subst (λ (runs : List Pfn). Sticks c.args.at.now (turn_of (marked c.args.order runs)) c.in-Err.stuck (without n a) (g.R.Reach.shown c.under.new.reach)) c.as_slice.ensures
    (nested.under_at _ c.args.at.now _ _ n a _ _ _ c.of_session-number.ensures c.in-Err.ensures.sticks c.requires.holds c.under.ensures.ended))))

pub add-requires-clause-ready : goal.add-requires-clause-ready
add-requires-clause-ready g c = ready_after _ _ _ _ _ c.requires.ready c.in_default.ensures.goes

pub returns-in_err-_reply-clause-sticks : goal.returns-in_err-_reply-clause-sticks
returns-in_err-_reply-clause-sticks g c =
    let a = g.R.Reach.shown c.args.reach.now in let n = session_no c.args.slot.0 in
    let p = err_from_is_err_and c.from_residual.result c.from_residual.ensures.1 in rw (p.1, p.2)
    (nested.sticks_next (marked c.args.order c.args.runs.now) (added c.args.slot c.args.name c.args.token c.args.file Ok) refl _ _ _ _ (without n a) (without n (g.R.Reach.shown c.mark_any.new.reach)) _ (nested.within_goes _ _ _ n a _ (same_runs c.args.order _ _ _ _ _ _ c.as_slice.ensures c.in_default.ensures.goes)) c.in_err-_reply.ensures.same_at c.in_err-_reply.ensures.sticks)

pub returns-clause-goes : goal.returns-clause-goes
returns-clause-goes g c =
    let a = g.R.Reach.shown c.args.reach.now in let n = session_no c.args.slot.0 in
    then_goes _ _ _ _ _ (without n a) (without n (g.R.Reach.shown c.mark_any.new.reach)) _ (nested.within_goes _ _ _ n a _ (same_runs c.args.order _ _ _ _ _ _ c.as_slice.ensures c.in_default.ensures.goes))
    (replied _ _ _ _ Ok _ _ _ _ (admitted_answer _ c.args.name c.args.token.0 None _ c.requires.admitted c.in_ok-_reply.ensures.answer) c.in_ok-_reply.ensures.goes)
