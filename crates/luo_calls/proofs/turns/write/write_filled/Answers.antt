use Rattle.luo_calls.proofs.Sticking.{sticks_any}
use Rattle.std.specs.Prelude.{None}
use Rattle.std.specs.Vec.{vec_len}
use Rattle.std.proofs.Common.{◌≡◌, length, arith, refl, [], ◌∷◌, ap, sym, subst, ◌∙◌}
use Rattle.ho_base.specs.Objects.{file_no}
use Rattle.ho_base.specs.declared.numbers.Kind.TheVariants.{Memfd}
use Rattle.ho_world.specs.Acts.{IsFile}
use Rattle.phys_frames.specs.Memory.{AreOf}
use Rattle.file_folios.specs.FileAnswers.{AreFillsOf}
use Rattle.memfd_file.specs.Files.{FileHas}
use Rattle.luo_calls.proofs.Folios.{runs_of_home}
use Rattle.machine_core.specs.Agents.{Agent}
use Rattle.luo_calls.proofs.FileHalts.{memfd_claimed, memfd_present}
use Rattle.luo_calls.specs.declared.stuck.Stuck.{Stuck}
use Rattle.luo_calls.specs.Opened.{without}
use Rattle.luo_calls.specs.Stuck.{Sticks}
use Rattle.luo_calls.proofs.Nested.{goes_from_room, under_at}
use Rattle.luo_calls.proofs.WriteTurns.{same_write, filled_reply, filled_runs, taken_fill, all_left, counted}
use Rattle.luo_calls.specs.Puts.{put_event}
use Rattle.luo_calls.proofs.turns.write.write_filled.Goals as goal

pub end_write-reply-requires-clause-present : goal.end_write-reply-requires-clause-present
end_write-reply-requires-clause-present g c = memfd_present _ _ c.requires.memfd

pub end_write-reply-requires-clause-fills : goal.end_write-reply-requires-clause-fills
end_write-reply-requires-clause-fills g c =
    subst (λ (x : Agent). FileHas c.args.object (λ f. AreFillsOf x.anchor.home f.order c.args.fills.items)) (sym c.in-Ok.ensures.kept)
    (taken_fill _ _ c.args.order _ _ c.requires.fills c.requires.memfd)

pub end_write-reply-requires-clause-fills_count : goal.end_write-reply-requires-clause-fills_count
end_write-reply-requires-clause-fills_count g c = counted _ _ _ _ c.requires.touched

pub destroy_empty-requires : goal.destroy_empty-requires
destroy_empty-requires g c =
    let none : c.end_write-reply.new.fills.items ≡ [] = c.end_write-reply.ensures.fills ∙ all_left _ _ (filled_reply _ _ _ _ _ c.end_write-reply.ensures.exact c.requires.touched) in
    let long : length c.end_write-reply.new.fills.items ≡ vec_len c.end_write-reply.new.fills = omega (arith, c.end_write-reply.new.fills.ok.0) in
    omega (arith, ap length none, long)

pub returns-in-Err-clause-sticks : goal.returns-in-Err-clause-sticks
returns-in-Err-clause-sticks g c =
    let a = g.R.Reach.shown c.args.reach.now in let n = file_no c.args.file.0 in
    sticks_any _ _ _ _ _ (subst (λ (s : Stuck). Sticks c.args.at.now None s (without n a) (g.R.Reach.shown c.under-stuck.new.reach)) (sym c.under-stuck.ensures.stuck)
    (under_at _ c.args.at.now _ _ n a _ _ _ c.of_file-number.ensures c.in-Err.ensures.sticks c.requires.holds c.under-stuck.ensures.ended))

pub returns-in-Err-clause-given_up : goal.returns-in-Err-clause-given_up
returns-in-Err-clause-given_up g c = subst (AreOf _) (sym c.requires.fills) (runs_of_home _ _ _)

pub returns-clause-goes : goal.returns-clause-goes
returns-clause-goes g c =
    let claims = IsFile c.args.file Memfd c.args.order ∷ [] in
    let ok = filled_reply _ _ _ _ _ c.end_write-reply.ensures.exact c.requires.touched in
    same_write _ (put_event c.args.put c.args.off) claims _ _ _ _ _ _ _ _ (filled_runs _ _ _ _ c.end_write-reply.result c.requires.fills ok) ok
    (goes_from_room _ _ _ (file_no c.args.file.0) (g.R.Reach.shown c.args.reach.now) _ _ c.in-Ok.ensures.kept
    (c.end_write-reply.ensures.goes claims (memfd_claimed (g.R.Reach.shown c.resume.new.reach) (g.R.Reach.shown c.resume.new.reach).hands c.args.file c.args.object c.args.order (ap (λ (x : Agent). x.hands (file_no c.args.file.0)) c.in-Ok.ensures.kept ∙ c.requires.holds.held) c.requires.memfd)))
