use Rattle.std.specs.Prelude.{None}
use Rattle.std.specs.Vec.{vec_len}
use Rattle.std.proofs.Common.{◌≡◌, length, arith, refl, [], ◌∷◌, ap, sym, subst, ◌∙◌}
use Rattle.ho_base.specs.Objects.{file_no}
use Rattle.ho_base.specs.declared.numbers.Kind.TheVariants.{Memfd}
use Rattle.ho_events.specs.declared.slip.Listed.{Listed}
use Rattle.ho_world.specs.Acts.{IsFile}
use Rattle.machine_core.specs.Agents.{Agent}
use Rattle.luo_calls.specs.Opened.{without}
use Rattle.luo_calls.specs.Stuck.{Sticks}
use Rattle.luo_calls.specs.declared.stuck.Stuck.{Stuck}
use Rattle.luo_calls.proofs.FileHalts.{is_there, memfd_claimed}
use Rattle.luo_calls.proofs.Nested.{goes_from_room, under_at}
use Rattle.luo_calls.proofs.PinTurns.{indexes_fit, no_fills, no_left, no_used, same_pin, with_none}
use Rattle.luo_calls.proofs.Sticking.{sticks_any}
use Rattle.luo_calls.proofs.turns.pin.pin_plain.Goals as goal

pub index_count-requires : goal.index_count-requires
index_count-requires g c = record { present = is_there _ _ c.requires.memfd }

pub end_pin-reply-requires-clause-present : goal.end_pin-reply-requires-clause-present
end_pin-reply-requires-clause-present g c = is_there _ _ c.requires.memfd

pub end_pin-reply-requires-clause-fills : goal.end_pin-reply-requires-clause-fills
end_pin-reply-requires-clause-fills g c = no_fills _ _ _ _ c.new-fills.ensures.items c.requires.memfd

pub end_pin-reply-requires-clause-slip_runs : goal.end_pin-reply-requires-clause-slip_runs
end_pin-reply-requires-clause-slip_runs g c =
    indexes_fit _ _ _ (ap (λ (l : Listed). l.reply_numbers) (c.in-Ok.ensures.listed ∙ c.pin_lists.ensures)) c.index_count.ensures.value

pub destroy_empty-requires : goal.destroy_empty-requires
destroy_empty-requires g c =
    let none : c.end_pin-reply.new.fills.items ≡ [] = c.end_pin-reply.ensures.fills ∙ no_left c.end_pin-reply.result _ c.new-fills.ensures.items in
    let long : length c.end_pin-reply.new.fills.items ≡ vec_len c.end_pin-reply.new.fills = omega (arith, c.end_pin-reply.new.fills.ok.0) in
    omega (arith, ap length none, long)

pub returns-clause-exact : goal.returns-clause-exact
returns-clause-exact g c = with_none _ _ _ c.new-fills.ensures.len c.end_pin-reply.ensures.exact

pub returns-clause-goes : goal.returns-clause-goes
returns-clause-goes g c =
    let claims = IsFile c.args.file Memfd c.args.order ∷ [] in
    same_pin _ claims _ _ _ _ _ _ _ _ (no_used c.end_pin-reply.result _ c.new-fills.ensures.items) refl
    (goes_from_room _ _ _ (file_no c.args.file.0) (g.R.Reach.shown c.args.reach.now) _ _ c.in-Ok.ensures.kept
    (c.end_pin-reply.ensures.goes claims (memfd_claimed (g.R.Reach.shown c.resume.new.reach) (g.R.Reach.shown c.resume.new.reach).hands c.args.file c.args.object c.args.order (ap (λ (x : Agent). x.hands (file_no c.args.file.0)) c.in-Ok.ensures.kept ∙ c.requires.holds.held) c.requires.memfd)))

pub returns-in-Err-clause-sticks : goal.returns-in-Err-clause-sticks
returns-in-Err-clause-sticks g c =
    let a = g.R.Reach.shown c.args.reach.now in let n = file_no c.args.file.0 in
    sticks_any _ _ _ _ _ (subst (λ (s : Stuck). Sticks c.args.at.now None s (without n a) (g.R.Reach.shown c.under.new.reach)) (sym c.under.ensures.stuck)
    (under_at _ c.args.at.now _ _ n a _ _ _ c.of_file-number.ensures c.in-Err.ensures.sticks c.requires.holds c.under.ensures.ended))
