use Rattle.std.proofs.Common.{◌≤◌, length, subst, sym, refl, arith}
use Rattle.ho_events.specs.File.{runs_of}
use Rattle.ho_events.specs.Slips.{reply_runs}
use Rattle.ho_events.specs.declared.event.Event.TheVariants.{FileFinish}
use Rattle.memfd_file.specs.Files.{FileHas, IsFinishAnswer}
use Rattle.memfd_file.specs.FileShown.{shown}
use Rattle.memfd_file.proofs.FileSteps.{turn_noted, keeps_run}
use Rattle.memfd_file.proofs.Told.{IsFew, room_for, reply_room_for, has_shown, few_by, finish_few}
use Rattle.memfd_file.proofs.file.FileObject.finish.Goals as goal

pub append_turn-requires-clause-copy : goal.append_turn-requires-clause-copy
append_turn-requires-clause-copy c =
    room_for FileFinish c.finish-reply.result c.args.slip.room c.open-own.result.2 c.open-own.ensures.copy (omega arith) refl
    (few_by c.self.inside.file (λ f. length (runs_of f)) (λ f. IsFinishAnswer f c.finish-reply.result) c.args.slip.room.reply_numbers c.finish-reply.result
    (has_shown (shown c.self.inside.start.value) c.self.inside.history.items c.self.inside.home c.self.inside.file (λ f. length (runs_of f) ≤ c.args.slip.room.reply_numbers) c.self.invariant
    (subst (λ v. FileHas v (λ f. length (runs_of f) ≤ c.args.slip.room.reply_numbers)) (sym c.self.view_is) c.requires.slip_numbers))
    c.finish-reply.ensures.answer (λ f. finish_few f c.finish-reply.result))

pub append_turn-requires-clause-value : goal.append_turn-requires-clause-value
append_turn-requires-clause-value c =
    reply_room_for c.finish-reply.result c.args.slip.room c.open-own.result.3 c.open-own.ensures.value
    (few_by c.self.inside.file (λ f. length (runs_of f)) (λ f. IsFinishAnswer f c.finish-reply.result) c.args.slip.room.reply_numbers c.finish-reply.result
    (has_shown (shown c.self.inside.start.value) c.self.inside.history.items c.self.inside.home c.self.inside.file (λ f. length (runs_of f) ≤ c.args.slip.room.reply_numbers) c.self.invariant
    (subst (λ v. FileHas v (λ f. length (runs_of f) ≤ c.args.slip.room.reply_numbers)) (sym c.self.view_is) c.requires.slip_numbers))
    c.finish-reply.ensures.answer (λ f. finish_few f c.finish-reply.result))

pub invariant_of-self : goal.invariant_of-self
invariant_of-self c =
    turn_noted (shown c.self.inside.start.value) c.self.inside.history.items c.append_turn.new.history.items c.append_turn.result.entry c.self.inside.home c.self.inside.file c.finish-reply.new.file
    FileFinish c.finish-reply.result _ _ _ c.self.invariant c.append_turn.ensures.kept c.append_turn.ensures.told c.finish-reply.ensures.step (c.finish-reply.ensures.kept c.self.inside.home c.self.invariant.kept)

pub returns-clause-few : goal.returns-clause-few
returns-clause-few c =
    let few : IsFew c.args.slip.room.reply_numbers c.finish-reply.result =
    few_by c.self.inside.file (λ f. length (runs_of f)) (λ f. IsFinishAnswer f c.finish-reply.result) c.args.slip.room.reply_numbers c.finish-reply.result
    (has_shown (shown c.self.inside.start.value) c.self.inside.history.items c.self.inside.home c.self.inside.file (λ f. length (runs_of f) ≤ c.args.slip.room.reply_numbers) c.self.invariant
    (subst (λ v. FileHas v (λ f. length (runs_of f) ≤ c.args.slip.room.reply_numbers)) (sym c.self.view_is) c.requires.slip_numbers))
    c.finish-reply.ensures.answer (λ f. finish_few f c.finish-reply.result) in
    subst (λ r. length (reply_runs r) ≤ c.args.slip.room.reply_numbers) (sym c.append_turn.ensures.value) few.runs

pub returns-clause-run : goal.returns-clause-run
returns-clause-run c = keeps_run (shown c.self.inside.start.value) c.append_turn.new.history.items c.self.inside.home c.finish-reply.new.file (invariant_of-self c)
