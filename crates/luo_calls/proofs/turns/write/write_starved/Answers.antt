use Rattle.luo_calls.proofs.Sticking.{sticks_any}
use Rattle.std.specs.Prelude.{None}
use Rattle.std.proofs.Common.{refl, [], ◌∷◌, ap, sym, subst, ◌∙◌}
use Rattle.ho_base.specs.Objects.{file_no}
use Rattle.ho_base.specs.declared.numbers.Kind.TheVariants.{Memfd}
use Rattle.ho_world.specs.Acts.{IsFile}
use Rattle.machine_core.specs.Agents.{Agent}
use Rattle.luo_calls.proofs.FileHalts.{memfd_claimed, memfd_present}
use Rattle.luo_calls.specs.declared.stuck.Stuck.{Stuck}
use Rattle.luo_calls.specs.Opened.{without}
use Rattle.luo_calls.specs.Stuck.{Sticks}
use Rattle.luo_calls.proofs.Nested.{goes_from_room, under_at}
use Rattle.luo_calls.proofs.WriteTurns.{same_write, no_fills, nothing_fills, starved_reply}
use Rattle.luo_calls.specs.Puts.{put_event}
use Rattle.luo_calls.proofs.turns.write.write_starved.Goals as goal

pub end_write-reply-requires-clause-present : goal.end_write-reply-requires-clause-present
end_write-reply-requires-clause-present g c = memfd_present _ _ c.requires.memfd

pub end_write-reply-requires-clause-fills : goal.end_write-reply-requires-clause-fills
end_write-reply-requires-clause-fills g c = nothing_fills _ _ _ c.new-fills.ensures.items (memfd_present _ _ c.requires.memfd)

pub returns-clause-goes : goal.returns-clause-goes
returns-clause-goes g c =
    let claims = IsFile c.args.file Memfd c.args.order ∷ [] in
    same_write _ (put_event c.args.put c.args.off) claims _ _ _ _ _ _ _ _ (no_fills c.end_write-reply.result _ c.new-fills.ensures.items)
    (starved_reply _ _ _ _ _ _ c.new-fills.ensures.len c.end_write-reply.ensures.exact c.requires.touched)
    (goes_from_room _ _ _ (file_no c.args.file.0) (g.R.Reach.shown c.args.reach.now) _ _ c.in-Ok.ensures.kept
    (c.end_write-reply.ensures.goes claims (memfd_claimed (g.R.Reach.shown c.resume.new.reach) (g.R.Reach.shown c.resume.new.reach).hands c.args.file c.args.object c.args.order (ap (λ (x : Agent). x.hands (file_no c.args.file.0)) c.in-Ok.ensures.kept ∙ c.requires.holds.held) c.requires.memfd)))

pub returns-in-Err-clause-sticks : goal.returns-in-Err-clause-sticks
returns-in-Err-clause-sticks g c =
    let a = g.R.Reach.shown c.args.reach.now in let n = file_no c.args.file.0 in
    sticks_any _ _ _ _ _ (subst (λ (s : Stuck). Sticks c.args.at.now None s (without n a) (g.R.Reach.shown c.under.new.reach)) (sym c.under.ensures.stuck)
    (under_at _ c.args.at.now _ _ n a _ _ _ c.of_file-number.ensures c.in-Err.ensures.sticks c.requires.holds c.under.ensures.ended))
