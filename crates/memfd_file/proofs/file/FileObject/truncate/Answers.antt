use Rattle.std.proofs.Common.{◌≤◌, length, subst, sym, refl, arith}
use Rattle.std.specs.Prelude.{Some}
use Rattle.std.specs.Option.{MatchOption}
use Rattle.ho_events.specs.File.{cut_runs}
use Rattle.ho_events.specs.Slips.{reply_runs}
use Rattle.ho_events.specs.declared.event.Event.TheVariants.{FileTruncate}
use Rattle.file_folios.specs.FileAnswers.{IsTruncateAnswer}
use Rattle.memfd_file.specs.Files.{FileHas}
use Rattle.memfd_file.specs.FileShown.{shown}
use Rattle.memfd_file.proofs.FileSteps.{stays_noted, keeps_run, truncate_keeps}
use Rattle.memfd_file.proofs.Told.{IsFew, room_for, reply_room_for, has_shown, few_by, truncate_few}
use Rattle.memfd_file.proofs.file.FileObject.truncate.Goals as goal

pub append_turn-requires-clause-copy : goal.append_turn-requires-clause-copy
append_turn-requires-clause-copy c =
    room_for (FileTruncate c.args.size) c.truncate-reply.result c.args.slip.room c.open-own.result.2 c.open-own.ensures.copy (omega arith) refl
    (few_by c.self.inside.file (λ f. length (cut_runs f c.args.size)) (λ f. IsTruncateAnswer f c.args.size c.truncate-reply.result) c.args.slip.room.reply_numbers c.truncate-reply.result
    (has_shown (shown c.self.inside.start.value) c.self.inside.history.items c.self.inside.home c.self.inside.file (λ f. length (cut_runs f c.args.size) ≤ c.args.slip.room.reply_numbers) c.self.invariant
    (subst (λ v. FileHas v (λ f. length (cut_runs f c.args.size) ≤ c.args.slip.room.reply_numbers)) (sym c.self.view_is) c.requires.slip_numbers))
    (subst (λ o. MatchOption o ⊥ (λ v. IsTruncateAnswer v.state c.args.size c.truncate-reply.result)) (sym c.in-Some.is) c.truncate-reply.ensures.answer)
    (λ f. truncate_few f c.args.size c.truncate-reply.result))

pub append_turn-requires-clause-value : goal.append_turn-requires-clause-value
append_turn-requires-clause-value c =
    reply_room_for c.truncate-reply.result c.args.slip.room c.open-own.result.3 c.open-own.ensures.value
    (few_by c.self.inside.file (λ f. length (cut_runs f c.args.size)) (λ f. IsTruncateAnswer f c.args.size c.truncate-reply.result) c.args.slip.room.reply_numbers c.truncate-reply.result
    (has_shown (shown c.self.inside.start.value) c.self.inside.history.items c.self.inside.home c.self.inside.file (λ f. length (cut_runs f c.args.size) ≤ c.args.slip.room.reply_numbers) c.self.invariant
    (subst (λ v. FileHas v (λ f. length (cut_runs f c.args.size) ≤ c.args.slip.room.reply_numbers)) (sym c.self.view_is) c.requires.slip_numbers))
    (subst (λ o. MatchOption o ⊥ (λ v. IsTruncateAnswer v.state c.args.size c.truncate-reply.result)) (sym c.in-Some.is) c.truncate-reply.ensures.answer)
    (λ f. truncate_few f c.args.size c.truncate-reply.result))

pub invariant_of-self : goal.invariant_of-self
invariant_of-self c =
    stays_noted (shown c.self.inside.start.value) c.self.inside.history.items c.append_turn.new.history.items c.append_turn.result.entry c.self.inside.home c.self.inside.file c.in-Some.file c.truncate-reply.new.self
    (FileTruncate c.args.size) (FileTruncate c.args.size) c.truncate-reply.result _ _ _ c.self.invariant c.in-Some.is c.append_turn.ensures.kept c.append_turn.ensures.told refl c.truncate-reply.ensures.step c.truncate-reply.ensures.home
    (truncate_keeps c.in-Some.file.state c.truncate-reply.new.self.state c.args.size c.truncate-reply.result c.truncate-reply.ensures.step)

pub returns-clause-few : goal.returns-clause-few
returns-clause-few c =
    let few : IsFew c.args.slip.room.reply_numbers c.truncate-reply.result =
    few_by c.self.inside.file (λ f. length (cut_runs f c.args.size)) (λ f. IsTruncateAnswer f c.args.size c.truncate-reply.result) c.args.slip.room.reply_numbers c.truncate-reply.result
    (has_shown (shown c.self.inside.start.value) c.self.inside.history.items c.self.inside.home c.self.inside.file (λ f. length (cut_runs f c.args.size) ≤ c.args.slip.room.reply_numbers) c.self.invariant
    (subst (λ v. FileHas v (λ f. length (cut_runs f c.args.size) ≤ c.args.slip.room.reply_numbers)) (sym c.self.view_is) c.requires.slip_numbers))
    (subst (λ o. MatchOption o ⊥ (λ v. IsTruncateAnswer v.state c.args.size c.truncate-reply.result)) (sym c.in-Some.is) c.truncate-reply.ensures.answer)
    (λ f. truncate_few f c.args.size c.truncate-reply.result) in
    subst (λ r. length (reply_runs r) ≤ c.args.slip.room.reply_numbers) (sym c.append_turn.ensures.value) few.runs

pub returns-clause-run : goal.returns-clause-run
returns-clause-run c = keeps_run (shown c.self.inside.start.value) c.append_turn.new.history.items c.self.inside.home (Some c.truncate-reply.new.self) (invariant_of-self c)
