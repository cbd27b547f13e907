use Rattle.std.specs.Prelude.{None}
use Rattle.std.specs.Vec.{vec_len}
use Rattle.std.proofs.Common.{◌≡◌, length, arith, refl, [], ◌∷◌, ap, sym, subst, ◌∙◌}
use Rattle.ho_base.specs.Objects.{file_no}
use Rattle.ho_base.specs.declared.numbers.Kind.TheVariants.{Memfd}
use Rattle.ho_events.specs.declared.reply.Reply.TheVariants.{OkRuns}
use Rattle.ho_events.specs.declared.slip.Listed.{Listed}
use Rattle.ho_world.specs.Acts.{IsFile}
use Rattle.phys_frames.specs.Memory.{AreOf}
use Rattle.machine_core.specs.Agents.{Agent}
use Rattle.luo_calls.specs.Opened.{without}
use Rattle.luo_calls.specs.Stuck.{Sticks}
use Rattle.luo_calls.specs.declared.stuck.Stuck.{Stuck}
use Rattle.luo_calls.proofs.FileHalts.{is_there, memfd_claimed}
use Rattle.luo_calls.proofs.Folios.{runs_of_home}
use Rattle.luo_calls.proofs.Nested.{goes_from_room, under_at}
use Rattle.luo_calls.proofs.PinTurns.{all_left, counted, few_came, filled_fills, filled_runs, indexes_fit, runs_came, same_pin, whole_came, whole_reply}
use Rattle.luo_calls.proofs.Sticking.{sticks_any}
use Rattle.luo_calls.proofs.turns.pin.pin_filled.Goals as goal

pub index_count-requires : goal.index_count-requires
index_count-requires g c = record { present = is_there _ _ c.requires.memfd }

pub end_pin-reply-requires-clause-present : goal.end_pin-reply-requires-clause-present
end_pin-reply-requires-clause-present g c = is_there _ _ c.requires.memfd

pub end_pin-reply-requires-clause-fills : goal.end_pin-reply-requires-clause-fills
end_pin-reply-requires-clause-fills g c = filled_fills _ c.args.order _ _ c.args.runs.value _ c.requires.holds.found.machine c.requires.fills c.requires.memfd

pub end_pin-reply-requires-clause-fills_count : goal.end_pin-reply-requires-clause-fills_count
end_pin-reply-requires-clause-fills_count g c = counted _ _ c.requires.holes

pub end_pin-reply-requires-clause-slip_runs : goal.end_pin-reply-requires-clause-slip_runs
end_pin-reply-requires-clause-slip_runs g c =
    indexes_fit _ _ _ (ap (λ (l : Listed). l.reply_numbers) (c.in-Ok.ensures.listed ∙ c.pin_lists-listed.ensures)) c.index_count.ensures.value

pub destroy_empty-requires : goal.destroy_empty-requires
destroy_empty-requires g c =
    let none : c.end_pin-reply.new.fills.items ≡ [] = c.end_pin-reply.ensures.fills ∙ all_left _ _ (whole_reply _ _ _ c.requires.holes c.end_pin-reply.ensures.exact) in
    let long : length c.end_pin-reply.new.fills.items ≡ vec_len c.end_pin-reply.new.fills = omega (arith, c.end_pin-reply.new.fills.ok.0) in
    omega (arith, ap length none, long)

pub returns-in-Err-clause-sticks : goal.returns-in-Err-clause-sticks
returns-in-Err-clause-sticks g c =
    let a = g.R.Reach.shown c.args.reach.now in let n = file_no c.args.file.0 in
    sticks_any _ _ _ _ _ (subst (λ (s : Stuck). Sticks c.args.at.now None s (without n a) (g.R.Reach.shown c.under-stuck.new.reach)) (sym c.under-stuck.ensures.stuck)
    (under_at _ c.args.at.now _ _ n a _ _ _ c.of_file-number.ensures c.in-Err.ensures.sticks c.requires.holds c.under-stuck.ensures.ended))

pub returns-in-Err-clause-given_up : goal.returns-in-Err-clause-given_up
returns-in-Err-clause-given_up g c = subst (AreOf _) (sym c.requires.fills) (runs_of_home _ c.args.order _)

pub returns-clause-whole : goal.returns-clause-whole
returns-clause-whole g c = whole_came c.args.order c.args.runs _ _ c.outcome.ensures (whole_reply _ _ _ c.requires.holes c.end_pin-reply.ensures.exact)

pub returns-clause-few : goal.returns-clause-few
returns-clause-few g c = few_came c.args.order c.args.runs _ _ _ c.outcome.ensures (whole_reply _ _ _ c.requires.holes c.end_pin-reply.ensures.exact) c.end_pin-reply.ensures.few

pub returns-clause-goes : goal.returns-clause-goes
returns-clause-goes g c =
    let claims = IsFile c.args.file Memfd c.args.order ∷ [] in
    let whole = whole_reply _ _ _ c.requires.holes c.end_pin-reply.ensures.exact in
    same_pin _ claims _ _ _ _ _ _ _ _ (filled_runs _ c.args.order c.args.runs.value _ c.end_pin-reply.result c.requires.fills whole) (whole ∙ ap OkRuns (sym (runs_came c.args.order c.args.runs _ _ c.outcome.ensures whole)))
    (goes_from_room _ _ _ (file_no c.args.file.0) (g.R.Reach.shown c.args.reach.now) _ _ c.in-Ok.ensures.kept
    (c.end_pin-reply.ensures.goes claims (memfd_claimed (g.R.Reach.shown c.resume.new.reach) (g.R.Reach.shown c.resume.new.reach).hands c.args.file c.args.object c.args.order (ap (λ (x : Agent). x.hands (file_no c.args.file.0)) c.in-Ok.ensures.kept ∙ c.requires.holds.held) c.requires.memfd)))
