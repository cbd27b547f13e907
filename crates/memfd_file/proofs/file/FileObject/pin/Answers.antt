use Rattle.std.proofs.Common.{◌≡◌, ◌≤◌, length, vec_len, subst, sym, ap, arith, refl, ◌∙◌}
use Rattle.std.specs.Prelude.{Some}
use Rattle.std.specs.Option.{MatchOption}
use Rattle.std.proofs.lemmas.List.{length-map}
use Rattle.phys_frames.specs.Memory.{first_frames}
use Rattle.ho_events.specs.Lists.{pieces}
use Rattle.ho_events.specs.File.{index_bytes}
use Rattle.ho_events.specs.History.{file_from}
use Rattle.ho_events.specs.Slips.{reply_runs}
use Rattle.ho_events.specs.declared.event.Event.TheVariants.{FilePin}
use Rattle.file_folios.specs.FileAnswers.{pin_used, IsPinAnswer}
use Rattle.memfd_file.specs.Files.{FileHas}
use Rattle.memfd_file.specs.FileShown.{shown}
use Rattle.memfd_file.proofs.FileSteps.{stays_noted, keeps_run, pin_keeps, both_have}
use Rattle.memfd_file.proofs.Told.{IsFew, room_for, reply_room_for, has_shown, few_by, pin_few, used_few}
use Rattle.memfd_file.proofs.file.FileObject.pin.Goals as goal

pub append_turn-requires-clause-copy : goal.append_turn-requires-clause-copy
append_turn-requires-clause-copy c =
    let used : c.from_vec.result ≡ first_frames (pin_used c.pin-reply.result c.args.fills.now.items) = c.from_vec.ensures ∙ c.pin-reply.ensures.used in
    let count : length c.from_vec.result ≡ length (pin_used c.pin-reply.result c.args.fills.now.items) = ap length used ∙ length-map (pin_used c.pin-reply.result c.args.fills.now.items) (λ f. f.first) in
    room_for (FilePin c.from_vec.result) c.pin-reply.result c.args.slip.room c.open-own.result.2 c.open-own.ensures.copy
    (omega (arith, count, used_few c.pin-reply.result c.args.fills.now.items, c.args.fills.now.ok, c.requires.slip_fills)) refl
    (few_by c.self.inside.file (λ f. pieces (length f.bytes) (index_bytes f)) (λ f. IsFew (pieces (length f.bytes) (index_bytes f)) c.pin-reply.result) c.args.slip.room.reply_numbers c.pin-reply.result
    (has_shown (shown c.self.inside.start.value) c.self.inside.history.items c.self.inside.home c.self.inside.file (λ f. pieces (length f.bytes) (index_bytes f) ≤ c.args.slip.room.reply_numbers) c.self.invariant
    (subst (λ v. FileHas v (λ f. pieces (length f.bytes) (index_bytes f) ≤ c.args.slip.room.reply_numbers)) (sym c.self.view_is) c.requires.slip_runs))
    (subst (λ o. MatchOption o ⊥ (λ v. IsFew (pieces (length v.state.bytes) (index_bytes v.state)) c.pin-reply.result)) (sym c.in-Some.is)
    (pin_few c.in-Some.file.state c.pin-reply.new.self.state (vec_len c.args.fills.now) (pieces (length c.in-Some.file.state.bytes) (index_bytes c.in-Some.file.state)) c.pin-reply.result c.pin-reply.ensures.answer c.pin-reply.ensures.few))
    (λ f h. h))

pub append_turn-requires-clause-value : goal.append_turn-requires-clause-value
append_turn-requires-clause-value c =
    reply_room_for c.pin-reply.result c.args.slip.room c.open-own.result.3 c.open-own.ensures.value
    (few_by c.self.inside.file (λ f. pieces (length f.bytes) (index_bytes f)) (λ f. IsFew (pieces (length f.bytes) (index_bytes f)) c.pin-reply.result) c.args.slip.room.reply_numbers c.pin-reply.result
    (has_shown (shown c.self.inside.start.value) c.self.inside.history.items c.self.inside.home c.self.inside.file (λ f. pieces (length f.bytes) (index_bytes f) ≤ c.args.slip.room.reply_numbers) c.self.invariant
    (subst (λ v. FileHas v (λ f. pieces (length f.bytes) (index_bytes f) ≤ c.args.slip.room.reply_numbers)) (sym c.self.view_is) c.requires.slip_runs))
    (subst (λ o. MatchOption o ⊥ (λ v. IsFew (pieces (length v.state.bytes) (index_bytes v.state)) c.pin-reply.result)) (sym c.in-Some.is)
    (pin_few c.in-Some.file.state c.pin-reply.new.self.state (vec_len c.args.fills.now) (pieces (length c.in-Some.file.state.bytes) (index_bytes c.in-Some.file.state)) c.pin-reply.result c.pin-reply.ensures.answer c.pin-reply.ensures.few))
    (λ f h. h))

pub invariant_of-self : goal.invariant_of-self
invariant_of-self c =
    stays_noted (shown c.self.inside.start.value) c.self.inside.history.items c.append_turn.new.history.items c.append_turn.result.entry c.self.inside.home c.self.inside.file c.in-Some.file c.pin-reply.new.self
    (FilePin c.from_vec.result) (FilePin c.pin-reply.new.used.items) c.pin-reply.result _ _ _ c.self.invariant c.in-Some.is c.append_turn.ensures.kept c.append_turn.ensures.told (ap (λ r. FilePin r) c.from_vec.ensures) c.pin-reply.ensures.step c.pin-reply.ensures.home
    (pin_keeps c.in-Some.file.state c.pin-reply.new.self.state c.pin-reply.new.used.items c.pin-reply.result c.pin-reply.ensures.step)

pub returns-clause-exact : goal.returns-clause-exact
returns-clause-exact c =
    let answer : IsPinAnswer c.in-Some.file.state (vec_len c.args.fills.now) c.pin-reply.new.self.state c.append_turn.result.value =
    subst (IsPinAnswer c.in-Some.file.state (vec_len c.args.fills.now) c.pin-reply.new.self.state) (sym c.append_turn.ensures.value) c.pin-reply.ensures.answer in
    subst (λ v. MatchOption (file_from v.start v.history) ⊥ (λ s. MatchOption s ⊥ (λ f. MatchOption (file_from (shown c.self.inside.start.value) c.append_turn.new.history.items) ⊥ (λ t. MatchOption t ⊥ (λ g. IsPinAnswer f (vec_len c.args.fills.now) g c.append_turn.result.value))))) c.self.view_is
    (both_have (shown c.self.inside.start.value) c.self.inside.history.items c.append_turn.new.history.items c.self.inside.home c.self.inside.file c.in-Some.file c.pin-reply.new.self
    (λ f g. IsPinAnswer f (vec_len c.args.fills.now) g c.append_turn.result.value) c.self.invariant c.in-Some.is (invariant_of-self c) answer)

pub returns-clause-few : goal.returns-clause-few
returns-clause-few c =
    let few : IsFew c.args.slip.room.reply_numbers c.pin-reply.result =
    few_by c.self.inside.file (λ f. pieces (length f.bytes) (index_bytes f)) (λ f. IsFew (pieces (length f.bytes) (index_bytes f)) c.pin-reply.result) c.args.slip.room.reply_numbers c.pin-reply.result
    (has_shown (shown c.self.inside.start.value) c.self.inside.history.items c.self.inside.home c.self.inside.file (λ f. pieces (length f.bytes) (index_bytes f) ≤ c.args.slip.room.reply_numbers) c.self.invariant
    (subst (λ v. FileHas v (λ f. pieces (length f.bytes) (index_bytes f) ≤ c.args.slip.room.reply_numbers)) (sym c.self.view_is) c.requires.slip_runs))
    (subst (λ o. MatchOption o ⊥ (λ v. IsFew (pieces (length v.state.bytes) (index_bytes v.state)) c.pin-reply.result)) (sym c.in-Some.is)
    (pin_few c.in-Some.file.state c.pin-reply.new.self.state (vec_len c.args.fills.now) (pieces (length c.in-Some.file.state.bytes) (index_bytes c.in-Some.file.state)) c.pin-reply.result c.pin-reply.ensures.answer c.pin-reply.ensures.few))
    (λ f h. h) in
    subst (λ r. length (reply_runs r) ≤ c.args.slip.room.reply_numbers) (sym c.append_turn.ensures.value) few.runs

pub returns-clause-run : goal.returns-clause-run
returns-clause-run c = keeps_run (shown c.self.inside.start.value) c.append_turn.new.history.items c.self.inside.home (Some c.pin-reply.new.self) (invariant_of-self c)
