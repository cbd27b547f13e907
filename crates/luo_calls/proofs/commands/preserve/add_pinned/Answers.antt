use Rattle.std.proofs.Common.{ap, sym}
use Rattle.std.proofs.lemmas.Result.{err_from_is_err_and}
use Rattle.ho_events.specs.declared.reply.Reply.TheVariants.{NoFrames}
use Rattle.luo_calls.specs.Preserved.{added, after_pin}
use Rattle.luo_calls.proofs.Nested as nested
use Rattle.luo_calls.proofs.commands.preserve.add_pinned.Goals as goal

pub returns-in_err-_reply-in-Starved-clause-sticks : goal.returns-in_err-_reply-in-Starved-clause-sticks
returns-in_err-_reply-in-Starved-clause-sticks g c =
    let p = err_from_is_err_and c.from_residual-in_err-_reply-in-Starved.result c.from_residual-in_err-_reply-in-Starved.ensures.1 in rw (p.1, p.2)
    (nested.sticks_first (added c.args.slot c.args.name c.args.token c.args.file NoFrames) (ap (after_pin c.args.slot c.args.name c.args.token c.args.file) (sym c.in-Starved.is)) _ _ _ _ _ c.in_err-_reply-in-Starved.ensures.same_at c.in_err-_reply-in-Starved.ensures.sticks)

pub returns-in_err-reply-in-Refused-clause-sticks : goal.returns-in_err-reply-in-Refused-clause-sticks
returns-in_err-reply-in-Refused-clause-sticks g c =
    let p = err_from_is_err_and c.from_residual-in_err-reply-in-Refused.result c.from_residual-in_err-reply-in-Refused.ensures.1 in rw (p.1, p.2)
    (nested.sticks_first (added c.args.slot c.args.name c.args.token c.args.file c.in-Refused.lost) (ap (after_pin c.args.slot c.args.name c.args.token c.args.file) (sym c.in-Refused.is)) _ _ _ _ _ c.in_err-reply-in-Refused.ensures.same_at c.in_err-reply-in-Refused.ensures.sticks)
