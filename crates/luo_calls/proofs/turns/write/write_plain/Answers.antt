use Rattle.luo_calls.proofs.Sticking.{sticks_any}
use Rattle.std.specs.Prelude.{None}
use Rattle.std.proofs.Common.{refl, [], sym, subst}
use Rattle.ho_base.specs.Objects.{file_no}
use Rattle.luo_calls.specs.declared.stuck.Stuck.{Stuck}
use Rattle.luo_calls.specs.Opened.{without}
use Rattle.luo_calls.specs.Stuck.{Sticks}
use Rattle.luo_calls.proofs.Nested.{goes_from_room, under_at}
use Rattle.luo_calls.proofs.WriteTurns.{same_write, no_fills, nothing_fills, plain_reply}
use Rattle.luo_calls.specs.Puts.{put_event}
use Rattle.luo_calls.proofs.turns.write.write_plain.Goals as goal

pub end_write-reply-requires-clause-fills : goal.end_write-reply-requires-clause-fills
end_write-reply-requires-clause-fills g c = nothing_fills _ _ _ c.new-fills.ensures.items c.requires.present

pub returns-clause-reply : goal.returns-clause-reply
returns-clause-reply g c = plain_reply _ _ _ _ _ c.new-fills.ensures.len c.end_write-reply.ensures.exact c.requires.plain

pub returns-clause-goes : goal.returns-clause-goes
returns-clause-goes g c =
    same_write _ (put_event c.args.put c.args.off) [] _ _ _ _ _ _ _ _ (no_fills c.end_write-reply.result _ c.new-fills.ensures.items) refl
    (goes_from_room _ _ _ (file_no c.args.file.0) (g.R.Reach.shown c.args.reach.now) _ _ c.in-Ok.ensures.kept (c.end_write-reply.ensures.goes [] tt))

pub returns-in-Err-clause-sticks : goal.returns-in-Err-clause-sticks
returns-in-Err-clause-sticks g c =
    let a = g.R.Reach.shown c.args.reach.now in let n = file_no c.args.file.0 in
    sticks_any _ _ _ _ _ (subst (λ (s : Stuck). Sticks c.args.at.now None s (without n a) (g.R.Reach.shown c.under.new.reach)) (sym c.under.ensures.stuck)
    (under_at _ c.args.at.now _ _ n a _ _ _ c.of_file-number.ensures c.in-Err.ensures.sticks c.requires.holds c.under.ensures.ended))
